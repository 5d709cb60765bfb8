use Prim.Native.Nat.{◌-◌}
use lib.ListN.{length}
use Rattle.words.proofs.InkRuns.{InkLeft}
use Rattle.words.proofs.over_ink.Given as goal

abbrev pub invariant-loop-w : goal.invariant-loop-w
invariant-loop-w l = InkLeft l.glue l.s l.at l.w

abbrev pub decreases-loop-w : goal.decreases-loop-w
decreases-loop-w l = length l.s - l.w.end
