use Prim.Native.Nat.{◌-◌}
use lib.ListN.{length}
use Rattle.panel.proofs.Turns.{Drawing}
use Rattle.panel.proofs.draw_row.Given as goal

abbrev pub invariant-loop-at : goal.invariant-loop-at
invariant-loop-at l = Drawing l.line l.tab l.row l.at l.column

abbrev pub decreases-loop-at : goal.decreases-loop-at
decreases-loop-at l = length l.line - l.at
