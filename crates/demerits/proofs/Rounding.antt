-- Rounding to f32: the sign does not touch the size, and a fraction up to a whole number n rounds to a value up to n. Assumes nothing.
use mathlib.Core.Path.{◌≡◌, refl, sym, ap, ◌∙◌, subst}
use mathlib.Core.Bool.{Bool, true, false, cond, true≢false, ◌&&◌, ◌||◌}
use Prim.Native.Nat.{ℕ, zero, suc, ◌*◌, ◌^◌, ◌≤◌, ◌<◌}
use native.Mathlib.Nat.{le_trans, le_of_eq, le_of_lt, mul-one}
use lib.IntN.{ℤ}
use lib.Dec.{T, ltb, eqb, ltb→lt, eqb→eq, le→leb, lit<}
use lib.Ieee.{Float, nan, inf, fin, binary32, up, down, odd, units, round, neg, le}
use lib.Ieee.Fits.{down_pos, round_is}
use lib.Ieee.Exact.{HasValue}
use lib.Ieee.Back.{round_whole}
use lib.Ieee.Order.{transfer, round_mono, kept, drop}
use Rattle.demerits.specs.Cited.Bounds.{within}
use Rattle.demerits.specs.Demerits.{abs}

-- ---- what turns the sign s of a value into t turns that of a rounded fraction
module _ (g : Float → Float) (s t : Bool) (on-fin : (m : ℕ) (e : ℤ) → g (fin s m e) ≡ fin t m e) (on-inf : g (inf s) ≡ inf t) where
  turn_odd : (d q k l : ℕ) → g (odd d s q k l) ≡ odd d t q k l
  unfolding odd
  turn_odd d zero k l = on-fin _ _
  turn_odd d (suc q) k l = on-fin _ _

  turn_units : (q k : ℕ) → g (units binary32 s q k) ≡ units binary32 t q k
  unfolding units
  turn_units q k = pick (ltb (q * 2 ^ k) (2 ^ 277))
    where
      pick : (b : Bool) → g (cond b (odd 25 s q k 149) (inf s)) ≡ cond b (odd 25 t q k 149) (inf t)
      pick true = turn_odd 25 q k 149
      pick false = on-inf

  turn_round : (a c : ℕ) → g (round binary32 s a c) ≡ round binary32 t a c
  turn_round a c = ap g (round_is binary32 s a c) ∙ turn_units (kept 24 (a * 2 ^ 149) c) (drop 24 (a * 2 ^ 149) c) ∙ sym (round_is binary32 t a c)

pub abs_round : (s : Bool) (a c : ℕ) → abs (round binary32 s a c) ≡ round binary32 false a c
abs_round s = turn_round abs s false (λ (m : ℕ) (e : ℤ). refl) refl

pub neg_round : (a c : ℕ) → neg (round binary32 false a c) ≡ round binary32 true a c
unfolding neg
neg_round = turn_round neg false true (λ (m : ℕ) (e : ℤ). refl) refl

-- ---- the size of a rounded fraction
pub lt_or_eq : (a b : ℕ) → T (ltb a b || (eqb a b && true)) → a ≤ b
lt_or_eq a b = pick (ltb a b) (eqb a b) (ltb→lt a b) (eqb→eq a b)
  where
    pick : (p q : Bool) → (T p → a < b) → (T q → a ≡ b) → T (p || (q && true)) → a ≤ b
    pick true q f g t = le_of_lt (f tt)
    pick false true f g t = le_of_eq (g tt)
    pick false false f g t = elim t [ ]

-- |x| ≤ y, for a y of the value n
le_within : (x y : Float) (n : ℕ) → HasValue y false n 1 → T (le (abs x) y) → T (within n x)
unfolding le
le_within (inf s) nan n v t = absurd v
le_within (inf s) (inf u) n v t = absurd v
le_within (fin s m e) nan n v t = absurd v
le_within (fin s m e) (inf u) n v t = absurd v
le_within (fin s m e) (fin true k d) n v t = absurd (true≢false v.0)
le_within (fin s m e) (fin false k d) n v t =
    le→leb (m * up e) (n * down e)
    (le_trans (le_of_eq (sym (mul-one (m * up e))))
    (transfer (m * up e) n (down e) 1 (m * up e) (k * up d) (down e) (down d) (down_pos e) (down_pos d) refl (sym v.1) (lt_or_eq (m * up e * down d) (k * up d * down e) t)))
le_within nan y n v t = elim t [ ]
le_within (inf s) (fin _ k d) n v t = elim t [ ]

pub round_within : (s : Bool) (n a c : ℕ) → n ≤ 2 ^ 24 → 0 < c → a ≤ n * c → T (within n (round binary32 s a c))
round_within s n a c N C h =
    le_within (round binary32 s a c) (round binary32 false n 1) n (round_whole binary32 false n N)
    (subst (λ (z : Float). T (le z (round binary32 false n 1))) (sym (abs_round s a c))
    (round_mono binary32 a c n 1 C (lit< tt) (le_trans (le_of_eq (mul-one a)) h)))
