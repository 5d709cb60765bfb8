-- `index::record_behind` meets its contract.
use native.Mathlib.Omega.{arith}
use Rattle.marks.specs.Cited.Marks.{marks_in}
use Rattle.index.specs.Cited.Reading.{behind}
use Rattle.index.proofs.Reading.{after_is, gap_within}
use Rattle.index.proofs.record_behind.Goals as goal

pub overflow_add-at-2 : goal.overflow_add-at-2
overflow_add-at-2 c = let h = gap_within c.args.marks.now (behind c.args.r) _ c.requires.0 c.gap-length.ensures in let k = c.requires.1 in omega (arith, h, k)

pub returns : goal.returns
returns c = after_is (marks_in c.args.marks.now) c.args.r _ _ c.gap-length.ensures c.gap-count.ensures
