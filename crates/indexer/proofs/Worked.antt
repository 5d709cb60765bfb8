-- Records that do not follow each other without a gap: what `Follows` refuses. Each is wrong in one number alone.
use mathlib.Core.List.{[], ◌∷◌}
use Prim.Native.Nat.{ℕ}
use native.Mathlib.Omega.{arith}
use Rattle.index.specs.declared.Record.{Record}
use Rattle.indexer.specs.Theorems.Follows.{Follows}

abbrev at : ℕ → ℕ → ℕ → ℕ → Record
at place length first count = record { place = place; length = length; first = first; count = count }

-- the first begins a byte late, or an output line late
a_byte_late : Follows 0 0 (at 1 3 0 1 ∷ []) 3 1 → ⊥
a_byte_late f = omega (arith, f.0)

a_line_late : Follows 0 0 (at 0 3 1 1 ∷ []) 3 1 → ⊥
a_line_late f = omega (arith, f.1)

-- the second begins before the first has ended, in the notes or in the digest
a_byte_early : Follows 0 0 (at 0 3 0 2 ∷ at 2 3 2 1 ∷ []) 6 3 → ⊥
a_byte_early f = omega (arith, f.2.0)

a_line_early : Follows 0 0 (at 0 3 0 2 ∷ at 3 2 1 1 ∷ []) 5 3 → ⊥
a_line_early f = omega (arith, f.2.1)

-- the last ends before the notes, or before the digest's last line
bytes_left : Follows 0 0 (at 0 3 0 2 ∷ []) 4 2 → ⊥
bytes_left f = omega (arith, f.2.0)

lines_left : Follows 0 0 (at 0 3 0 2 ∷ []) 3 3 → ⊥
lines_left f = omega (arith, f.2.1)
