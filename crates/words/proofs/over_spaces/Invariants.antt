use Prim.Native.Nat.{◌-◌}
use lib.ListN.{length}
use Rattle.words.specs.Cited.Spaced.{OverSpaces}
use Rattle.words.proofs.over_spaces.Given as goal

abbrev pub invariant-loop-i : goal.invariant-loop-i
invariant-loop-i l = OverSpaces l.s l.at l.i

abbrev pub decreases-loop-i : goal.decreases-loop-i
decreases-loop-i l = length l.s - l.i
