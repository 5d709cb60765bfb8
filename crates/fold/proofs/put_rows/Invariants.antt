use Prim.Native.Nat.{◌-◌}
use lib.ListN.{length}
use Rattle.fold.proofs.Rows.{Turning}
use Rattle.fold.proofs.put_rows.Given as goal

abbrev pub invariant-loop-at : goal.invariant-loop-at
invariant-loop-at l = Turning l.tab l.columns l.line l.initial.at l.initial.k l.initial.rest l.at l.k l.rest

abbrev pub decreases-loop-at : goal.decreases-loop-at
decreases-loop-at l = length l.line - l.at
