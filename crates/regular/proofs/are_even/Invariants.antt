use mathlib.Core.Path.{◌≡◌}
use Prim.Native.Nat.{◌≤◌}
use lib.Seq.{slice}
use Rattle.regular.specs.Cited.Regular.{evenly}
use Rattle.regular.proofs.are_even.Given as goal

abbrev pub invariant-loop-i : goal.invariant-loop-i
invariant-loop-i l = (l.from ≤ l.i) × (l.i ≤ l.end) × (evenly 0 0 (slice l.from l.end l.s) ≡ evenly l.p l.q (slice l.i l.end l.s))
