-- The terms and the cost, each with its bound. Assumes nothing.
use mathlib.Core.Path.{◌≡◌, refl, ◌∙◌}
use mathlib.Core.Bool.{Bool, true, false, cond, ◌||◌}
use Prim.Native.Nat.{ℕ, ◌+◌, ◌-◌, ◌*◌, ◌^◌, ◌≤◌, ◌<◌}
use native.Mathlib.Nat.{le_trans, mul-le-mul}
use native.Mathlib.Omega.{arith}
use lib.Dec.{T, leb, lit≤, lit<}
use lib.Ieee.{Float, binary32, mul, sub, div, of_int}
use lib.Ieee.Back.{round_whole}
use borrow.Author.Tests.{leb-true, leb-false, le-leb, lt-leb}
use Rattle.demerits.specs.Cited.Bounds.{within, at_most, most_word, most_cost}
use Rattle.demerits.specs.Demerits.{abs, cube, float, term, line_term, word_term, ratio_term, cost, cost_with}
use Rattle.demerits.proofs.Operations.{abs_up_to, up_to_more, float_up_to, mul_within, mul_up_to, sub_within, div_within}
use Rattle.demerits.proofs.Ratios.{quotient_within}
use Rattle.demerits.proofs.Whole.{whole_le}

-- ---- a term of the weight k, for an x of at most b either way: at most n, where k * b³ is
abbrev weighted : ℕ → Float → Float
weighted k x = mul binary32 (float k) (abs (cube x))

module _ (n k b : ℕ) (x : Float) (N : k * (b * b * b) ≤ n) (K : k ≤ 2 ^ 16) (B : b ≤ 4) (h : T (within b x)) where
  square_le : b * b ≤ 16
  square_le = mul-le-mul B B

  cube_le : b * b * b ≤ 64
  cube_le = mul-le-mul square_le B

  cube_within : T (within (b * b * b) (cube x))
  cube_within = mul_within (b * b) b (mul binary32 x x) x (le_trans cube_le (lit≤ tt)) (mul_within b b x x (le_trans square_le (lit≤ tt)) h h) h

  pub weighted_up_to : T (at_most n (weighted k x))
  weighted_up_to =
      up_to_more (k * (b * b * b)) n (weighted k x) N
      (mul_up_to k (b * b * b) (float k) (abs (cube x)) (le_trans (mul-le-mul K cube_le) (lit≤ tt)) (float_up_to k (le_trans K (lit≤ tt))) (abs_up_to (b * b * b) (cube x) cube_within))

  pub term_le : term k x ≤ n
  unfolding term
  term_le = whole_le n (weighted k x) weighted_up_to

-- ---- L
pub line_le : (r : Float) → T (within 1 r) → line_term r ≤ 100
line_le r h = term_le 100 100 1 r (lit≤ tt) (lit≤ tt) (lit≤ tt) h

-- ---- W: a long word, a stretch of at most 1, a short word
word_long : (s w : ℕ) → s ≤ w → 0 ≡ word_term s w
unfolding word_term
word_long s w h = simp (le-leb s w h)

pub word_tight : (s w : ℕ) → s ≤ 1 → 0 ≡ word_term s w
unfolding word_term
word_tight s w k = by (leb s w)
  where
    by : (x : Bool) → 0 ≡ cond (x || leb s 1) 0 (term 300 (div binary32 (float (s - w)) (float (s - 1))))
    by true = refl
    by false = simp (le-leb s 1 k)

word_short : (s w : ℕ) → w < s → 1 < s → term 300 (div binary32 (float (s - w)) (float (s - 1))) ≡ word_term s w
unfolding word_term
word_short s w h k = simp (lt-leb s w h, lt-leb s 1 k)

-- of a long word nothing is left to divide, and nothing is what it weighs
pub word_any : (s w : ℕ) → 1 < s → s ≤ 2 ^ 24 → term 300 (div binary32 (float (s - w)) (float (s - 1))) ≡ word_term s w
word_any s w k N = by (leb s w) refl
  where
    none : s ≤ w → term 300 (div binary32 (float (s - w)) (float (s - 1))) ≤ 0
    none h = term_le 0 300 0 _ (lit≤ tt) (lit≤ tt) (lit≤ tt) (quotient_within 0 (s - w) (s - 1) (lit≤ tt) (omega arith) (omega arith) (omega arith) (omega arith))

    by : (x : Bool) → leb s w ≡ x → term 300 (div binary32 (float (s - w)) (float (s - 1))) ≡ word_term s w
    by true e = let h = leb-true s w e in let z = none h in (let q : term 300 (div binary32 (float (s - w)) (float (s - 1))) ≡ 0 = omega arith in q) ∙ word_long s w h
    by false e = word_short s w (leb-false s w e) k

-- a stretch from 2 on is at most twice what it is divided by
pub word_within : (s w : ℕ) → 1 < s → s ≤ 2 ^ 24 → T (within 2 (div binary32 (float (s - w)) (float (s - 1))))
word_within s w k N = quotient_within 2 (s - w) (s - 1) (lit≤ tt) (omega arith) (omega arith) (omega arith) (omega arith)

pub word_le : (s w : ℕ) → 1 < s → s ≤ 2 ^ 24 → word_term s w ≤ most_word
word_le s w k N = rw (← word_any s w k N) (term_le most_word 300 2 _ (lit≤ tt) (lit≤ tt) (lit≤ tt) (word_within s w k N))

-- ---- D
pub change_within : (r old : Float) → T (within 1 r) → T (within 1 old) → T (within 1 (div binary32 (sub binary32 r old) (float 2)))
unfolding of_int
change_within r old h k =
    div_within 1 2 2 false (sub binary32 r old) (float 2) (lit≤ tt) (lit≤ tt) (lit< tt) (sub_within 1 1 r old (lit≤ tt) h k) (round_whole binary32 false 2 (lit≤ tt))

pub ratio_le : (r old : Float) → T (within 1 r) → T (within 1 old) → ratio_term r old ≤ 600
ratio_le r old h k = term_le 600 600 1 _ (lit≤ tt) (lit≤ tt) (lit≤ tt) (change_within r old h k)

-- ---- the cost
pub cost_with_law : (r old : Float) (s word w : ℕ) → w ≡ word_term s word → cost_with r old w ≡ cost r old s word
unfolding cost
cost_with_law r old s word w e = rw e

pub square_le_most : (l w d : ℕ) → l ≤ 100 → w ≤ most_word → d ≤ 600 → (1 + l + w + d) * (1 + l + w + d) ≤ most_cost
square_le_most l w d L W D = let s : 1 + l + w + d ≤ 3101 = omega arith in mul-le-mul s s
