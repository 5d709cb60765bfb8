use mathlib.Core.Path.{◌≡◌}
use Prim.Native.Nat.{◌≤◌}
use Rattle.regular.specs.Cited.Places.{columns_in}
use Rattle.regular.proofs.columns_between.Given as goal

abbrev pub invariant-loop-i : goal.invariant-loop-i
invariant-loop-i l = (l.from ≤ l.i) × (l.i ≤ l.to) × (l.n ≡ columns_in l.s l.from l.i)
