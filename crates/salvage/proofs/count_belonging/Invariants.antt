use Prim.Native.Nat.{◌-◌, min}
use lib.ListN.{length}
use Rattle.salvage.specs.Restoring.{listed}
use Rattle.salvage.proofs.Back.{Counting}
use Rattle.salvage.proofs.count_belonging.Given as goal

abbrev pub invariant-loop-k : goal.invariant-loop-k
invariant-loop-k l = Counting l.copy (listed l.places l.bytes) l.at l.k

abbrev pub decreases-loop-k : goal.decreases-loop-k
decreases-loop-k l = min (length l.places) (length l.bytes) - l.k
