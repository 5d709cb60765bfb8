use mathlib.Core.Path.{◌≡◌}
use mathlib.Core.Bool.{false}
use Prim.Native.Nat.{ℕ, ◌≤◌, ◌<◌}
use Rattle.records.specs.Cited.Marks.{mark_in}
use Rattle.knuth_plass.proofs.Marks.{Marking}
use Rattle.knuth_plass.proofs.marking.clear.Given as goal

abbrev pub invariant-loop-i : goal.invariant-loop-i
invariant-loop-i l = (l.i ≤ l.n) × Marking l.n l.initial.work l.work × ((j : ℕ) → j < l.i → mark_in l.work j ≡ false)
