-- |x| by two comparisons with 0. Assumes nothing.
use mathlib.Core.Path.{◌≡◌, refl, sym, subst}
use mathlib.Core.Bool.{Bool, true, false, not, true≢false, beq, ◌||◌}
use Prim.Native.Nat.{ℕ, zero, suc, ◌+◌, ◌*◌, ◌≤◌, ◌<◌}
use native.Mathlib.Nat.{zero-mul}
use native.Mathlib.Omega.{arith}
use lib.Dec.{T, ltb, eqb, ltb→lt, eqb→eq, nltb→le}
use lib.Ieee.{Float, nan, inf, fin, binary32, up, down, neg, lt, eq, fits}
use lib.Ieee.Fits.{and_l, and_i, eq→eqb}
use lib.Ieee.Exact.{HasValue}
use lib.Ieee.Back.{whole_unique}
use Rattle.demerits.specs.Demerits.{abs, no_ratio}

none_less : (a b : ℕ) → ltb a (0 * b) ≡ true → ⊥
none_less a b t = let h : a < 0 * b = ltb→lt a (0 * b) (subst T (sym t) tt) in omega (arith, zero-mul b)

pub abs_below : (x : Float) → lt x no_ratio ≡ true → neg x ≡ abs x
unfolding lt neg
abs_below nan t = refl
abs_below (inf true) t = refl
abs_below (inf false) t = absurd (true≢false (sym t))
abs_below (fin true m e) t = refl
abs_below (fin false m e) t = absurd (none_less (m * up e * 1) (down e) t)

abs_fits : (x : Float) → T (fits binary32 x) → T (fits binary32 (abs x))
unfolding fits
abs_fits nan h = tt
abs_fits (inf s) h = tt
abs_fits (fin s zero e) h = h
abs_fits (fin s (suc m) e) h = h

zero_value : (x : Float) → eq x no_ratio ≡ true → HasValue (abs x) false 0 1
unfolding eq
zero_value nan t = absurd (true≢false (sym t))
zero_value (inf s) t = absurd (true≢false (sym t))
zero_value (fin s m e) t = (refl, eqb→eq (m * up e * 1) (0 * down e) (and_l (eqb (m * up e * 1) (0 * down e)) (beq s false || eqb (m * up e * 1) 0) (subst T (sym t) tt)))

zero_fits : T (fits binary32 no_ratio)
unfolding fits
zero_fits = tt

pub abs_level : (x : Float) → T (fits binary32 x) → eq x no_ratio ≡ true → no_ratio ≡ abs x
abs_level x F t = whole_unique binary32 no_ratio (abs x) false 0 zero_fits (abs_fits x F) (refl, refl) (zero_value x t)

-- a negative value that is not below 0 is level with it
pub abs_above : (x : Float) → lt x no_ratio ≡ false → eq x no_ratio ≡ false → x ≡ abs x
unfolding lt eq
abs_above nan t u = refl
abs_above (inf true) t u = absurd (true≢false t)
abs_above (inf false) t u = refl
abs_above (fin false m e) t u = refl
abs_above (fin true m e) t u =
    let A = m * up e * 1 in
    let B = 0 * down e in
    let h : A + B ≤ 0 = nltb→le 0 (A + B) (subst (λ (b : Bool). T (not b)) (sym t) tt) in
    absurd (subst T u (and_i (eqb A B) (eqb A 0) (eq→eqb (same A B h)) (eq→eqb (small A B h))))
  where
    same : (a b : ℕ) → a + b ≤ 0 → a ≡ b
    same a b h = omega arith

    small : (a b : ℕ) → a + b ≤ 0 → a ≡ 0
    small a b h = omega arith
