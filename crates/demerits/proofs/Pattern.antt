-- The bits of an f32 that is not negative, and its whole part. n is the value in units of 2 ^ -149, of which the pattern drops k digits:
-- the pattern is k * 2 ^ 23 + n / 2 ^ k, and the whole part is n / 2 ^ 149. Assumes nothing.
use mathlib.Core.Path.{◌≡◌, refl, sym, ap, ◌∙◌, subst}
use mathlib.Core.Logic.{inl, inr}
use Prim.Native.Nat.{ℕ, suc, ◌+◌, ◌-◌, ◌*◌, ◌/◌, ◌%◌, ◌^◌, ◌≤◌, ◌<◌}
use native.Mathlib.Nat.{le_trans, le_of_eq, lt_of_lt_of_le, lt_of_le_of_lt, zero-add, mul_comm, mul_assoc, mul_right_comm, mul-pos, mul-le-mul_right, mul-lt-mul_of_pos_right, eq-zero-or-pos, div-div-eq-div-mul, div-eq_of_lt, le-div_iff_mul-le, div-lt_iff_lt-mul, le_of_suc-le-suc}
use native.Mathlib.Omega.{arith}
use mathlib.Core.Bool.{Bool, true, false, not, cond}
use lib.IntN.{ℤ}
use lib.Dec.{T, ltb, leb→le}
use lib.Pow.{pow-add, pow_pos, pow_mono, shr-shr}
use lib.Bits.{bit_and, bit_or, and_mask, or_shifted_r}
use lib.Ieee.{Float, nan, inf, fin, binary32, up, down, size, to_bits, is_nan}
use lib.Ieee.Digits.{size-lt, size-le, size_reaches}
use lib.Ieee.Fits.{down_pos, kept-lt}
use lib.Ieee.Nearest.{div_same}
use borrow.Author.Tests.{ltb-true, ltb-false}
use Rattle.demerits.specs.Cited.Bounds.{at_most, places}
use Rattle.demerits.specs.Demerits.{whole}

-- ---- the arithmetic of a pattern b = k * 2 ^ 23 + q
Split : ℕ → ℕ → ℕ → Type 0
Split k q b = (b ≡ k * 8388608 + q) × (q < 16777216) × (0 < k → 8388608 ≤ q)

field : (k q b : ℕ) → Split k q b → 127 ≤ b / 8388608 → (b / 8388608 ≡ k + 1) × (b % 8388608 + 8388608 ≡ q)
unfolding Split
field k q b s h =
    let e = s.0 in
    let l = s.1 in
    elim (eq-zero-or-pos k) [ inl z ↦ absurd (none e l z) | inr p ↦ some e l (s.2 p) ]
  where
    none : b ≡ k * 8388608 + q → q < 16777216 → k ≡ 0 → ⊥
    none e l z = omega arith

    some : b ≡ k * 8388608 + q → q < 16777216 → 8388608 ≤ q → (b / 8388608 ≡ k + 1) × (b % 8388608 + 8388608 ≡ q)
    some e l g = omega arith

low_field : (k q b : ℕ) → Split k q b → b / 8388608 < 127 → k ≤ 125
unfolding Split
low_field k q b s h =
    elim (eq-zero-or-pos k) [ inl z ↦ none z | inr p ↦ some s.0 (s.2 p) ]
  where
    none : k ≡ 0 → k ≤ 125
    none z = omega arith

    some : b ≡ k * 8388608 + q → 8388608 ≤ q → k ≤ 125
    some e g = omega arith

high_field : (k q b : ℕ) → Split k q b → k ≤ 149 → b / 8388608 ≤ 150
unfolding Split
high_field k q b s h = let e = s.0 in let l = s.1 in omega arith

-- ---- n, its k and its q
dropped : ℕ → ℕ
dropped n = size n - 24

covers : (n k : ℕ) → size n - 24 ≤ k → n < 2 ^ (24 + k)
covers n k h = lt_of_lt_of_le (size-lt n) (pow_mono (omega arith))

split_of : (n : ℕ) → Split (dropped n) (n / 2 ^ dropped n) (dropped n * 8388608 + n / 2 ^ dropped n)
unfolding Split dropped
split_of n = (refl, kept-lt 24 n, λ (p : 0 < size n - 24). (le-div_iff_mul-le (pow_pos (size n - 24))).1 (le_trans (le_of_eq (sym (pow-add 2 23 (size n - 24)))) (size_reaches n (23 + (size n - 24)) (room (size n) p))))
  where
    room : (z : ℕ) → 0 < z - 24 → 23 + (z - 24) < z
    room z h = omega arith

few : (most n : ℕ) → most < 2 ^ 24 → n ≤ most * 2 ^ 149 → dropped n ≤ 149
unfolding dropped
few most n M h = let s : size n ≤ 173 = size-le n 173 (lt_of_le_of_lt h (mul-lt-mul_of_pos_right M (pow_pos 149))) in omega arith

-- ---- what the function works out of the pattern
abbrev pub digits : ℕ → ℕ
digits b = bit_or (bit_and b 8388607) 8388608

digits_are : (b : ℕ) → digits b ≡ b % 8388608 + 8388608
digits_are b = ap (λ (x : ℕ). bit_or x 8388608) (and_mask b 23) ∙ or_shifted_r 1 23 (b % 8388608) (mod_small b) ∙ swap (b % 8388608)
  where
    mod_small : (a : ℕ) → a % 8388608 < 8388608
    mod_small a = omega arith

    swap : (a : ℕ) → 8388608 + a ≡ a + 8388608
    swap a = omega arith

cut_is : (n b k q : ℕ) → Split k q b → q ≡ n / 2 ^ k → k ≤ 149 → 127 ≤ b / 8388608 → digits b / 2 ^ (150 - b / 8388608) ≡ n / 2 ^ 149
cut_is n b k q s e h l =
    let f = field k q b s l in
    let g : 150 - b / 8388608 ≡ 149 - k = omega (arith, f.0) in
    let j : k + (149 - k) ≡ 149 = omega arith in
    ap (λ (x : ℕ). x / 2 ^ (150 - b / 8388608)) (digits_are b ∙ f.1 ∙ e)
    ∙ ap (λ (x : ℕ). n / 2 ^ k / 2 ^ x) g
    ∙ shr-shr n k (149 - k)
    ∙ ap (λ (x : ℕ). n / 2 ^ x) j

-- 24 places leave nothing of 24 digits
none_left : (b : ℕ) → digits b / 2 ^ 24 ≡ 0
none_left b = div-eq_of_lt (rw (digits_are b) (small b))
  where
    small : (a : ℕ) → a % 8388608 + 8388608 < 16777216
    small a = omega arith

-- ---- a float
-- its size in units of 2 ^ -149
in_units : ℕ → ℤ → ℕ
in_units m e = m * up e * 2 ^ 149 / down e

units_whole : (m : ℕ) (e : ℤ) → in_units m e / 2 ^ 149 ≡ m * up e / down e
unfolding in_units
units_whole m e =
    div-div-eq-div-mul (m * up e * 2 ^ 149) (down e) (2 ^ 149)
    ∙ div_same (m * up e * 2 ^ 149) (down e * 2 ^ 149) (m * up e) (down e) (mul-pos (down_pos e) (pow_pos 149)) (down_pos e) (same (m * up e) (down e) (2 ^ 149))
  where
    same : (a b c : ℕ) → a * c * b ≡ a * (b * c)
    same a b c = mul_assoc a c b ∙ ap (λ (x : ℕ). a * x) (mul_comm c b)

units_le : (most m : ℕ) (e : ℤ) → m * up e ≤ most * down e → in_units m e ≤ most * 2 ^ 149
unfolding in_units
units_le most m e h = le_of_suc-le-suc ((div-lt_iff_lt-mul (down_pos e)).1 (below (m * up e) (down e) (2 ^ 149) (down_pos e) h))
  where
    below : (a b c : ℕ) → 0 < b → a ≤ most * b → a * c < suc (most * c) * b
    below a b c B h = omega (arith, native.Mathlib.Nat.suc-mul (most * c) b, mul_right_comm most b c, mul-le-mul_right c h)

bits_are : (m : ℕ) (e : ℤ) → to_bits binary32 (fin false m e) ≡ dropped (in_units m e) * 8388608 + in_units m e / 2 ^ dropped (in_units m e)
unfolding to_bits dropped in_units
bits_are m e = let n = m * up e * 2 ^ 149 / down e in ap (λ (x : ℕ). x + n / 2 ^ (size n - 24)) (zero-add ((size n - 24) * 8388608))

-- ---- a float of at most `most`, a number that has no more than the 24 digits of an f32
module _ (most : ℕ) (M : most < 2 ^ 24) where
  module _ (m : ℕ) (e : ℤ) (h : m * up e ≤ most * down e) where
    the_split : Split (dropped (in_units m e)) (in_units m e / 2 ^ dropped (in_units m e)) (to_bits binary32 (fin false m e))
    the_split = subst (λ (b : ℕ). Split (dropped (in_units m e)) (in_units m e / 2 ^ dropped (in_units m e)) b) (sym (bits_are m e)) (split_of (in_units m e))

    the_few : dropped (in_units m e) ≤ 149
    the_few = few most (in_units m e) M (units_le most m e h)

  small : (x : Float) → T (at_most most x) → to_bits binary32 x / 8388608 < 127 → 0 ≡ whole x
  small nan u l = absurd u
  small (inf s) u l = absurd u
  small (fin true m e) u l = absurd u
  small (fin false m e) u l =
      let h = leb→le (m * up e) (most * down e) u in
      let n = in_units m e in
      sym (div-eq_of_lt (lt_of_lt_of_le (covers n (dropped n) (unfold dropped in native.Mathlib.Nat.le_refl (size n - 24))) (pow_mono (room (dropped n) (low_field (dropped n) (n / 2 ^ dropped n) (to_bits binary32 (fin false m e)) (the_split m e h) l))))) ∙ units_whole m e
    where
      room : (k : ℕ) → k ≤ 125 → 24 + k ≤ 149
      room k h = omega arith

  large : (x : Float) → T (at_most most x) → 127 ≤ to_bits binary32 x / 8388608 → digits (to_bits binary32 x) / 2 ^ (150 - to_bits binary32 x / 8388608) ≡ whole x
  large nan u l = absurd u
  large (inf s) u l = absurd u
  large (fin true m e) u l = absurd u
  large (fin false m e) u l =
      let h = leb→le (m * up e) (most * down e) u in
      let n = in_units m e in
      cut_is n (to_bits binary32 (fin false m e)) (dropped n) (n / 2 ^ dropped n) (the_split m e h) refl (the_few m e h) l ∙ units_whole m e

  pub shift_fits : (x : Float) → T (at_most most x) → to_bits binary32 x / 8388608 ≤ 150
  shift_fits nan u = absurd u
  shift_fits (inf s) u = absurd u
  shift_fits (fin true m e) u = absurd u
  shift_fits (fin false m e) u =
      let h = leb→le (m * up e) (most * down e) u in
      let n = in_units m e in
      high_field (dropped n) (n / 2 ^ dropped n) (to_bits binary32 (fin false m e)) (the_split m e h) (the_few m e h)

  -- the digits before the point are the whole part
  pub cut_whole : (x : Float) → T (at_most most x) → digits (to_bits binary32 x) / 2 ^ places (to_bits binary32 x / 8388608) ≡ whole x
  cut_whole x u = by (ltb (to_bits binary32 x / 8388608) 127) refl
    where
      by : (y : Bool) → ltb (to_bits binary32 x / 8388608) 127 ≡ y → digits (to_bits binary32 x) / 2 ^ cond y 24 (150 - to_bits binary32 x / 8388608) ≡ whole x
      by true e = none_left (to_bits binary32 x) ∙ small x u (ltb-true (to_bits binary32 x / 8388608) 127 e)
      by false e = large x u (ltb-false (to_bits binary32 x / 8388608) 127 e)

pub no_nan : (most : ℕ) (x : Float) → T (at_most most x) → T (not (is_nan x))
unfolding is_nan
no_nan most nan u = absurd u
no_nan most (inf s) u = tt
no_nan most (fin s m e) u = tt
