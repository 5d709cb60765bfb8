use mathlib.Core.Path.{◌≡◌}
use Prim.Native.Nat.{◌+◌, ◌-◌, ◌≤◌}
use Rattle.regular.specs.Cited.Places.{columns_in}
use Rattle.regular.proofs.over_eights.Given as goal

abbrev pub invariant-loop-left : goal.invariant-loop-left
invariant-loop-left l = (l.p ≤ l.i) × (l.i ≤ l.e) × (columns_in l.s l.p l.i + l.left ≡ l.room)

abbrev pub decreases-loop-left : goal.decreases-loop-left
decreases-loop-left l = l.e - l.i
