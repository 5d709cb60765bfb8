use mathlib.Core.Path.{◌≡◌}
use Prim.Native.Nat.{◌+◌, ◌≤◌}
use Rattle.regular.specs.Cited.Places.{columns_in}
use Rattle.regular.proofs.columns_of_eight.Given as goal

abbrev pub invariant-loop-k : goal.invariant-loop-k
invariant-loop-k l = (l.i ≤ l.k) × (l.k ≤ l.i + 8) × (l.n ≡ columns_in l.s l.i l.k)
