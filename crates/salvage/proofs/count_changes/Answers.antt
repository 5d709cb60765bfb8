-- `salvage::count_changes` meets its contract. Invariant: what the notes have is what was counted and what is left.
use native.Mathlib.Omega.{arith}
use Rattle.salvage.proofs.Counts.{notes_first, notes_more, notes_last}
use Rattle.salvage.proofs.count_changes.Goals as goal

pub loop-at-init : goal.loop-at-init
loop-at-init c = notes_first _

pub overflow_add-count : goal.overflow_add-count
overflow_add-count c =
    let m = notes_more _ _ _ _ _ c.loop-at.invariant c.line_end-end.ensures c.line_changes-count.ensures in
    omega (arith, m.few, m.within)

pub loop-at-preserved : goal.loop-at-preserved
loop-at-preserved c = notes_more _ _ _ _ _ c.loop-at.invariant c.line_end-end.ensures c.line_changes-count.ensures

pub returns : goal.returns
returns c = notes_last _ _ _ c.loop-at-test.false c.loop-at.invariant
