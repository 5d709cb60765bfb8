use Prim.Native.Nat.{◌-◌}
use lib.ListN.{length}
use Rattle.salvage.proofs.Counts.{NotesLeft}
use Rattle.salvage.proofs.count_changes.Given as goal

abbrev pub invariant-loop-at : goal.invariant-loop-at
invariant-loop-at l = NotesLeft l.notes l.count l.at

abbrev pub decreases-loop-at : goal.decreases-loop-at
decreases-loop-at l = length l.notes - l.at
