-- The ratio of a line, by how its columns compare with the goal, and a quotient of two counts of columns. Assumes nothing.
use mathlib.Core.Path.{◌≡◌, refl, sym, ap, ◌∙◌}
use mathlib.Core.Bool.{Bool, true, false, cond}
use Prim.Native.Nat.{ℕ, suc, ◌+◌, ◌-◌, ◌*◌, ◌^◌, ◌≤◌, ◌<◌}
use native.Mathlib.Nat.{le_of_lt, le_of_eq, mul-one}
use native.Mathlib.Omega.{arith}
use lib.Arith.{lt_of_le-ne}
use lib.Dec.{T, eqb, ltb, lit<, lit≤}
use lib.Ieee.{Float, binary32, round, neg, div, of_int}
use lib.Ieee.Fits.{eq→eqb}
use lib.Ieee.Back.{round_whole}
use lib.Ieee.Bits.{is_true}
use borrow.Author.Tests.{ne_eqb, le-leb, lt-leb, ltb-true, ltb-false}
use Rattle.demerits.specs.Cited.Bounds.{within, apart}
use Rattle.demerits.specs.Demerits.{float, no_ratio, ratio}
use Rattle.demerits.proofs.Rounding.{neg_round, round_within}
use Rattle.demerits.proofs.Operations.{div_within}

pub ratio_same : (g t s : ℕ) → t ≡ g → no_ratio ≡ ratio g t s
unfolding ratio
ratio_same g t s e = simp (is_true (eqb t g) (eq→eqb e))

ratio_short : (g t s : ℕ) → (t ≡ g → ⊥) → t < g → div binary32 (float (g - t)) (float s) ≡ ratio g t s
unfolding ratio
ratio_short g t s n h = simp (ne_eqb t g n, le-leb t g (le_of_lt h))

ratio_long : (g t s : ℕ) → (t ≡ g → ⊥) → g ≤ t → div binary32 (neg (float (t - g))) (float s) ≡ ratio g t s
unfolding ratio of_int
ratio_long g t s n h =
    let k : g < t = lt_of_le-ne h (λ (e : g ≡ t). n (sym e)) in
    let j : suc (t - suc g) ≡ t - g = omega arith in
    simp (ne_eqb t g n, lt-leb t g k) (ap (λ (x : Float). div binary32 x (float s)) (neg_round (t - g) 1 ∙ ap (λ (a : ℕ). round binary32 true a 1) (sym j)))

pub ratio_apart : (g t s : ℕ) → (t ≡ g → ⊥) → div binary32 (apart g t) (float s) ≡ ratio g t s
ratio_apart g t s n = by (ltb t g) refl
  where
    by : (x : Bool) → ltb t g ≡ x → div binary32 (cond x (float (g - t)) (neg (float (t - g)))) (float s) ≡ ratio g t s
    by true e = ratio_short g t s n (ltb-true t g e)
    by false e = ratio_long g t s n (ltb-false t g e)

-- a quotient of two whole numbers that a float holds
module _ (n a b : ℕ) (N : n ≤ 2 ^ 24) (h : a ≤ n * b) (B : 0 < b) (A : a ≤ 2 ^ 24) (C : b ≤ 2 ^ 24) where
  rounded_within : (s : Bool) → T (within n (div binary32 (round binary32 s a 1) (round binary32 false b 1)))
  rounded_within s =
      div_within n a b false (round binary32 s a 1) (round binary32 false b 1) N h B
      (round_within s a a 1 A (lit< tt) (le_of_eq (sym (mul-one a)))) (round_whole binary32 false b C)

  pub quotient_within : T (within n (div binary32 (float a) (float b)))
  unfolding of_int
  quotient_within = rounded_within false

  negative_within : T (within n (div binary32 (neg (float a)) (float b)))
  unfolding of_int
  negative_within = rw neg_round (rounded_within true)

pub apart_within : (g t s : ℕ) → (t ≡ g → ⊥) → g ≤ t + s → t ≤ g + s → s ≤ 1000 → T (within 1 (div binary32 (apart g t) (float s)))
apart_within g t s n h k l = by (ltb t g) refl
  where
    by : (x : Bool) → ltb t g ≡ x → T (within 1 (div binary32 (cond x (float (g - t)) (neg (float (t - g)))) (float s)))
    by true e = let d = ltb-true t g e in quotient_within 1 (g - t) s (lit≤ tt) (omega arith) (omega arith) (omega arith) (omega arith)
    by false e =
        let d = ltb-false t g e in
        let m = n in
        negative_within 1 (t - g) s (lit≤ tt) (omega arith) (omega arith) (omega arith) (omega arith)
