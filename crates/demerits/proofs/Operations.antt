-- How large a product, a difference and a quotient are, from how large their operands are. Assumes nothing.
use mathlib.Core.Path.{◌≡◌, sym, ap, ◌∙◌, subst}
use mathlib.Core.Bool.{Bool, true, false, not, cond, beq, ◌&&◌}
use Prim.Native.Nat.{ℕ, ◌+◌, ◌-◌, ◌*◌, ◌^◌, ◌≤◌, ◌<◌}
use native.Mathlib.Nat.{le_trans, le_of_eq, mul-one, zero-mul, add-mul, mul_comm, mul_assoc, mul-le-mul, mul-le-mul_right, mul-pos, mul-mul-mul_comm, lt_irrefl}
use native.Mathlib.Omega.{arith}
use lib.Dec.{T, leb, ltb, eqb, leb→le, le→leb, eqb→eq, lit<}
use lib.Ieee.{Float, nan, inf, fin, binary32, up, down, unlike, round, sum, sub, mul, div, of_int}
use lib.Ieee.Fits.{down_pos}
use lib.Ieee.Exact.{HasValue}
use Rattle.demerits.specs.Cited.Bounds.{within, at_most}
use Rattle.demerits.specs.Demerits.{abs, float}
use Rattle.demerits.proofs.Rounding.{abs_round, round_within}

-- ---- a value with no sign
pub abs_up_to : (n : ℕ) (x : Float) → T (within n x) → T (at_most n (abs x))
abs_up_to n (fin s m e) h = h
abs_up_to n nan h = elim h [ ]
abs_up_to n (inf _) h = elim h [ ]

pub up_to_more : (n k : ℕ) (x : Float) → n ≤ k → T (at_most n x) → T (at_most k x)
up_to_more n k (fin false m e) l h = le→leb (m * up e) (k * down e) (le_trans (leb→le (m * up e) (n * down e) h) (mul-le-mul_right (down e) l))
up_to_more n k nan l h = elim h [ ]
up_to_more n k (inf _) l h = elim h [ ]
up_to_more n k (fin true m e) l h = elim h [ ]

round_up_to : (n a c : ℕ) → n ≤ 2 ^ 24 → 0 < c → a ≤ n * c → T (at_most n (round binary32 false a c))
round_up_to n a c N C h = subst (λ (z : Float). T (at_most n z)) (abs_round false a c) (abs_up_to n (round binary32 false a c) (round_within false n a c N C h))

pub float_up_to : (n : ℕ) → n ≤ 2 ^ 24 → T (at_most n (float n))
unfolding of_int
float_up_to n N = round_up_to n n 1 N (lit< tt) (le_of_eq (sym (mul-one n)))

-- ---- products
product_le : (p q m e n d : ℕ) → T (leb m (p * e)) → T (leb n (q * d)) → m * n ≤ p * q * (e * d)
product_le p q m e n d h k = le_trans (mul-le-mul (leb→le m (p * e) h) (leb→le n (q * d) k)) (le_of_eq (mul-mul-mul_comm p e q d))

pub mul_within : (p q : ℕ) (x y : Float) → p * q ≤ 2 ^ 24 → T (within p x) → T (within q y) → T (within (p * q) (mul binary32 x y))
unfolding mul
mul_within p q (fin s m e) (fin t n d) N h k =
    round_within (unlike s t) (p * q) (m * up e * (n * up d)) (down e * down d) N (mul-pos (down_pos e) (down_pos d)) (product_le p q (m * up e) (down e) (n * up d) (down d) h k)
mul_within p q nan y N h k = elim h [ ]
mul_within p q (inf _) y N h k = elim h [ ]
mul_within p q (fin s m e) nan N h k = elim k [ ]
mul_within p q (fin s m e) (inf _) N h k = elim k [ ]

pub mul_up_to : (p q : ℕ) (x y : Float) → p * q ≤ 2 ^ 24 → T (at_most p x) → T (at_most q y) → T (at_most (p * q) (mul binary32 x y))
unfolding mul
mul_up_to p q (fin false m e) (fin false n d) N h k =
    round_up_to (p * q) (m * up e * (n * up d)) (down e * down d) N (mul-pos (down_pos e) (down_pos d)) (product_le p q (m * up e) (down e) (n * up d) (down d) h k)
mul_up_to p q nan y N h k = elim h [ ]
mul_up_to p q (inf _) y N h k = elim h [ ]
mul_up_to p q (fin false m e) nan N h k = elim k [ ]
mul_up_to p q (fin false m e) (inf _) N h k = elim k [ ]
mul_up_to p q (fin false m e) (fin true n d) N h k = elim k [ ]
mul_up_to p q (fin true m e) y N h k = elim h [ ]

-- ---- differences
sum_within : (n : ℕ) (s : Bool) (a : ℕ) (t : Bool) (b c : ℕ) → n ≤ 2 ^ 24 → 0 < c → a + b ≤ n * c → T (within n (sum binary32 s a t b c))
unfolding sum
sum_within n s a t b c N C h = pick (beq s t) (ltb a b)
  where
    less : a - b ≤ n * c
    less = omega arith

    more : b - a ≤ n * c
    more = omega arith

    pick : (x y : Bool) → T (within n (cond x (round binary32 s (a + b) c) (cond y (round binary32 t (b - a) c) (round binary32 (s && ltb b a) (a - b) c))))
    pick true y = round_within s n (a + b) c N C h
    pick false true = round_within t n (b - a) c N C more
    pick false false = round_within (s && ltb b a) n (a - b) c N C less

difference_le : (p q m e n d : ℕ) → T (leb m (p * e)) → T (leb n (q * d)) → m * d + n * e ≤ (p + q) * (e * d)
difference_le p q m e n d h k =
    omega (arith, mul-le-mul_right d (leb→le m (p * e) h), mul-le-mul_right e (leb→le n (q * d) k), add-mul p q (e * d), mul_assoc p e d, mul_assoc q d e, ap (λ (z : ℕ). q * z) (mul_comm e d))

pub sub_within : (p q : ℕ) (x y : Float) → p + q ≤ 2 ^ 24 → T (within p x) → T (within q y) → T (within (p + q) (sub binary32 x y))
unfolding sub
sub_within p q (fin s m e) (fin t n d) N h k =
    sum_within (p + q) s (m * up e * down d) (not t) (n * up d * down e) (down e * down d) N (mul-pos (down_pos e) (down_pos d))
    (difference_le p q (m * up e) (down e) (n * up d) (down d) h k)
sub_within p q nan y N h k = elim h [ ]
sub_within p q (inf _) y N h k = elim h [ ]
sub_within p q (fin s m e) nan N h k = elim k [ ]
sub_within p q (fin s m e) (inf _) N h k = elim k [ ]

-- ---- quotients
quotient_le : (n p b m e k d : ℕ) → T (leb m (p * e)) → p ≤ n * b → k ≡ b * d → m * d ≤ n * (k * e)
quotient_le n p b m e k d h g q = rw q (le_trans (mul-le-mul_right d (le_trans (leb→le m (p * e) h) (mul-le-mul_right e g))) (le_of_eq (simp (mul_assoc, mul_comm))))

-- x / y, for a y of the size b
pub div_within : (n p b : ℕ) (t : Bool) (x y : Float) → n ≤ 2 ^ 24 → p ≤ n * b → 0 < b → T (within p x) → HasValue y t b 1 → T (within n (div binary32 x y))
unfolding div
div_within n p b t nan y N g B h v = elim h [ ]
div_within n p b t (inf _) y N g B h v = elim h [ ]
div_within n p b t (fin s m e) nan N g B h v = absurd v
div_within n p b t (fin s m e) (inf u) N g B h v = absurd v
div_within n p b t (fin s m e) (fin u k d) N g B h v = pick (eqb k 0) (eqb→eq k 0)
  where
    size : k * up d ≡ b * down d
    size = rw mul-one at v.1

    divisor : 0 < k * up d
    divisor = rw size (mul-pos B (down_pos d))

    pick : (z : Bool) → (T z → k ≡ 0) → T (within n (cond z (cond (eqb m 0) nan (inf (unlike s u))) (round binary32 (unlike s u) (m * up e * down d) (k * up d * down e))))
    pick true f = absurd (lt_irrefl 0 (subst (λ (z : ℕ). 0 < z) (ap (λ (z : ℕ). z * up d) (f tt) ∙ zero-mul (up d)) divisor))
    pick false f =
        round_within (unlike s u) n (m * up e * down d) (k * up d * down e) N (mul-pos divisor (down_pos e))
        (quotient_le n p b (m * up e) (down e) (k * up d) (down d) h g size)
