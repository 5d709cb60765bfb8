-- `knuth_plass::interval::space_at` meets its contract.
use Rattle.spacing.proofs.Laws.{added_is, added_none}
use Rattle.knuth_plass.specs.Cited.Interval.{sentence_at}
use mathlib.Core.Path.{sym}
use mathlib.Core.Bool.{false}
use Rattle.knuth_plass.proofs.interval.space_at.Goals as goal

pub returns-else-uniform : goal.returns-else-uniform
returns-else-uniform c =
    let a = c.args in
    added_is a.uniform a.w.first (sentence_at a.work.now a.i) false _ (rw (c.if-uniform.false.1, c.if-uniform.false.0) (sym (added_none (sentence_at a.work.now a.i) false)))
