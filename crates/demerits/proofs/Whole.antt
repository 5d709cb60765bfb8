-- The whole part of a value with no sign: how large it is, and what it means. Assumes nothing.
use mathlib.Core.Path.{◌≡◌, sym}
use mathlib.Core.Bool.{true, false}
use Prim.Native.Nat.{ℕ, suc, ◌-◌, ◌*◌, ◌/◌, ◌^◌, ◌≤◌, ◌<◌, min}
use native.Mathlib.Nat.{lt_of_le_of_lt, suc-mul, div-lt_iff_lt-mul, le_of_suc-le-suc}
use native.Mathlib.Omega.{arith}
use lib.Dec.{T, leb→le}
use lib.Ieee.{nan, inf, Float, fin, up, down, to_unsigned}
use lib.Ieee.Fits.{down_pos}
use Rattle.demerits.specs.Cited.Bounds.{at_most}
use Rattle.demerits.specs.Demerits.{whole}

pub whole_le : (n : ℕ) (x : Float) → T (at_most n x) → whole x ≤ n
whole_le n (fin false m e) h = le_of_suc-le-suc ((div-lt_iff_lt-mul (down_pos e)).1 (lt_of_le_of_lt (leb→le (m * up e) (n * down e) h) (more n (down e) (down_pos e))))
  where
    more : (a b : ℕ) → 0 < b → a * b < suc a * b
    more a b h = omega (arith, suc-mul a b)
whole_le n nan h = elim h [ ]
whole_le n (inf _) h = elim h [ ]
whole_le n (fin true m e) h = elim h [ ]

-- ---- Rust's `as` gives the same, at any width that holds the bound
pub whole_as : (w k : ℕ) (x : Float) → k < 2 ^ w → T (at_most k x) → whole x ≡ to_unsigned w x
unfolding to_unsigned
whole_as w k (fin false m e) W h = sym (capped (m * up e / down e) (2 ^ w) (whole_le k (fin false m e) h) W)
  where
    capped : (a b : ℕ) → a ≤ k → k < b → min a (b - 1) ≡ a
    capped a b g l = omega arith
whole_as w k nan W h = elim h [ ]
whole_as w k (inf _) W h = elim h [ ]
whole_as w k (fin true m e) W h = elim h [ ]
