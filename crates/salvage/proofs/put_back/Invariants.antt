use Prim.Native.Nat.{◌-◌, min}
use lib.ListN.{length}
use Rattle.salvage.specs.Restoring.{listed}
use Rattle.salvage.proofs.Back.{Returning}
use Rattle.salvage.proofs.put_back.Given as goal

abbrev pub invariant-loop-k : goal.invariant-loop-k
invariant-loop-k l = Returning l.copy (listed l.places l.bytes) l.initial.notes l.at l.k l.notes

abbrev pub decreases-loop-k : goal.decreases-loop-k
decreases-loop-k l = min (length l.places) (length l.bytes) - l.k
