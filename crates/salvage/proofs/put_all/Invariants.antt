use Prim.Native.Nat.{◌-◌}
use lib.ListN.{length}
use Rattle.salvage.proofs.Writes.{NotesPart}
use Rattle.salvage.proofs.put_all.Given as goal

abbrev pub invariant-loop-at : goal.invariant-loop-at
invariant-loop-at l = NotesPart l.notes l.initial.copy l.initial.places l.initial.bytes l.at l.n l.copy l.places l.bytes

abbrev pub decreases-loop-at : goal.decreases-loop-at
decreases-loop-at l = length l.notes - l.at
