use Prim.Native.Nat.{ℕ, ◌-◌, ◌≤◌, ◌<◌}
use Rattle.regular.specs.Cited.Places.{NoSpace}
use Rattle.regular.proofs.first_space.Given as goal

abbrev pub invariant-loop-i : goal.invariant-loop-i
invariant-loop-i l = (l.from ≤ l.i) × (l.i ≤ l.end) × ((j : ℕ) → l.from ≤ j → j < l.i → NoSpace l.s j)

abbrev pub decreases-loop-i : goal.decreases-loop-i
decreases-loop-i l = l.end - l.i
