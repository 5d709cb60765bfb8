use Prim.Native.Nat.{◌-◌}
use lib.ListN.{length}
use Rattle.checker.proofs.Scans.{GapLeft}
use Rattle.checker.proofs.over_gap.Given as goal

abbrev pub invariant-loop-code : goal.invariant-loop-code
invariant-loop-code l = GapLeft l.glue l.s l.at l.g

abbrev pub decreases-loop-code : goal.decreases-loop-code
decreases-loop-code l = length l.s - l.g.end
