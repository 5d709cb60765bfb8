use mathlib.Core.Path.{◌≡◌}
use mathlib.Core.Bool.{true}
use Prim.Native.Nat.{◌+◌}
use Rattle.lines.specs.Cited.Places.{AsciiBody}
use Rattle.lines.proofs.are_ascii.Given as goal

abbrev pub invariant-loop-k : goal.invariant-loop-k
invariant-loop-k l = l.all ≡ true → AsciiBody l.s l.i (l.i + l.k)
