use Prim.Native.Nat.{◌-◌}
use lib.ListN.{length}
use Rattle.fold.proofs.Stays.{Going}
use Rattle.fold.proofs.stay_end.Given as goal

abbrev pub invariant-loop-at : goal.invariant-loop-at
invariant-loop-at l = Going l.tab l.columns l.line l.from l.start l.at l.column

abbrev pub decreases-loop-at : goal.decreases-loop-at
decreases-loop-at l = length l.line - l.at
