use Prim.Native.Nat.{◌-◌, ◌≤◌}
use Rattle.regular.specs.Cited.Places.{EachRegular}
use Rattle.regular.proofs.regular_sixteens.Given as goal

abbrev pub invariant-loop-i : goal.invariant-loop-i
invariant-loop-i l = (l.from ≤ l.i) × (l.i ≤ l.end) × EachRegular l.s l.from l.i

abbrev pub decreases-loop-i : goal.decreases-loop-i
decreases-loop-i l = l.end - l.i
