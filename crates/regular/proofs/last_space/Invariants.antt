use Prim.Native.Nat.{ℕ, ◌≤◌, ◌<◌}
use Rattle.regular.specs.Cited.Places.{NoSpace}
use Rattle.regular.proofs.last_space.Given as goal

abbrev pub invariant-loop-i : goal.invariant-loop-i
invariant-loop-i l = (l.from ≤ l.i) × (l.i ≤ l.to) × ((j : ℕ) → l.i < j → j ≤ l.to → NoSpace l.s j)

abbrev pub decreases-loop-i : goal.decreases-loop-i
decreases-loop-i l = l.i
