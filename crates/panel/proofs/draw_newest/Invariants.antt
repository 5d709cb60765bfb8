use Prim.Native.Nat.{◌-◌}
use lib.ListN.{length}
use Rattle.panel.proofs.Panels.{Showing}
use Rattle.panel.proofs.draw_newest.Given as goal

abbrev pub invariant-loop-at : goal.invariant-loop-at
invariant-loop-at l = Showing l.digest l.tab l.cells l.at l.from

abbrev pub decreases-loop-at : goal.decreases-loop-at
decreases-loop-at l = length l.digest - l.at
