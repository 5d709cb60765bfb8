use Prim.Native.Nat.{◌-◌}
use lib.ListN.{length}
use Rattle.salvage.proofs.Writes.{LinePart}
use Rattle.salvage.proofs.put_mended.Given as goal

abbrev pub invariant-loop-i : goal.invariant-loop-i
invariant-loop-i l = LinePart l.line l.at l.n l.initial.copy l.initial.places l.initial.bytes l.i l.m l.copy l.places l.bytes

abbrev pub decreases-loop-i : goal.decreases-loop-i
decreases-loop-i l = length l.line - l.i
