-- A mark set in a word is a mark set in the table.
use mathlib.Core.Path.{◌≡◌, refl, sym, ap, ap₂, ◌∙◌}
use mathlib.Core.Bool.{Bool, true, false, true≢false}
use mathlib.Core.List.{List, [], ◌∷◌, ◌++◌}
use Prim.Native.Nat.{ℕ, zero, suc, ◌+◌, ◌*◌, ◌/◌, ◌%◌, ◌^◌, ◌<◌, max}
use native.Mathlib.Nat.{not-suc-le-zero, le_of_suc-le-suc, zero-add, suc-add, pow-suc}
use native.Mathlib.Omega.{arith}
use lib.Bits.{bit_or, or_step, or_zero_r}
use lib.Dec.{eqb, ltb}
use lib.Pow.{shl_exact}
use lib.ListN.{length, get_or, set, get_or-eq_default}
use lib.Seq.{set-append_left}
use borrow.Author.Tests.{ltb-true, ltb-false}
use Rattle.marks.specs.Cited.Marks.{bits_of, marks_in}
use Rattle.marks.proofs.Laws.{marks_cons, length_bits, length_marks}

-- ---- a word

-- its lowest place, and the places above
module _ (v : ℕ) where
  or_one : bit_or v 1 ≡ v / 2 * 2 + 1
  or_one = or_step v 1 ∙ ap₂ (λ (x y : ℕ). x * 2 + y) (or_zero_r (v / 2)) (go (v % 2) (omega arith))
    where
      go : (d : ℕ) → d < 2 → max d 1 ≡ 1
      go d h = omega arith

  or_above : (j : ℕ) → bit_or v (2 ^ suc j) ≡ bit_or (v / 2) (2 ^ j) * 2 + v % 2
  or_above j = or_step v (2 ^ suc j) ∙ ap₂ (λ (x y : ℕ). bit_or (v / 2) x * 2 + y) (omega (arith, pow-suc 2 j)) (go (v % 2) (2 ^ suc j % 2) (omega (arith, pow-suc 2 j)))
    where
      go : (d e : ℕ) → e ≡ 0 → max d e ≡ d
      go d e h = omega arith

bits_of_digits : (n a d : ℕ) → d < 2 → bits_of (suc n) (a * 2 + d) ≡ eqb d 1 ∷ bits_of n a
unfolding bits_of
bits_of_digits n a d h =
    let e : (a * 2 + d) % 2 ≡ d = omega arith in
    let q : (a * 2 + d) / 2 ≡ a = omega arith in
    ap₂ (λ (x y : ℕ). eqb x 1 ∷ bits_of n y) e q

bits_set : (n j v : ℕ) → bits_of n (bit_or v (2 ^ j)) ≡ set (bits_of n v) j true
unfolding bits_of
bits_set zero j v = refl
bits_set (suc n) zero v = ap (bits_of (suc n)) (or_one v) ∙ bits_of_digits n (v / 2) 1 (omega arith)
bits_set (suc n) (suc j) v = ap (bits_of (suc n)) (or_above v j) ∙ bits_of_digits n (bit_or (v / 2) (2 ^ j)) (v % 2) (omega arith) ∙ ap (λ (bs : List Bool). eqb (v % 2) 1 ∷ bs) (bits_set n j (v / 2))

-- ---- the table

set_behind : {A : Type 0} (xs ys : List A) (i : ℕ) (a : A) → set (xs ++ ys) (length xs + i) a ≡ xs ++ set ys i a
set_behind [] ys i a = ap (λ (k : ℕ). set ys k a) (zero-add i)
set_behind {A} (x ∷ xs) ys i a = ap (λ (k : ℕ). set (x ∷ (xs ++ ys)) k a) (suc-add (length xs) i) ∙ ap (λ (r : List A). x ∷ r) (set_behind xs ys i a)

module _ (j : ℕ) (less : j < 32) where
  marks_set : (t : List ℕ) (k : ℕ) → k < length t → marks_in (set t k (bit_or (get_or t k 0) (2 ^ j))) ≡ set (marks_in t) (32 * k + j) true
  marks_set [] k h = absurd (not-suc-le-zero h)
  marks_set (v ∷ t) zero h =
      let e : j ≡ 32 * 0 + j = omega arith in
      marks_cons (bit_or v (2 ^ j)) t
      ∙ ap (λ (bs : List Bool). bs ++ marks_in t) (bits_set 32 j v)
      ∙ sym (set-append_left (bits_of 32 v) (marks_in t) j true (omega (arith, length_bits 32 v)))
      ∙ ap₂ (λ (m : List Bool) (i : ℕ). set m i true) (sym (marks_cons v t)) e
  marks_set (v ∷ t) (suc k) h =
      let e : length (bits_of 32 v) + (32 * k + j) ≡ 32 * suc k + j = omega (arith, length_bits 32 v) in
      marks_cons v (set t k (bit_or (get_or t k 0) (2 ^ j)))
      ∙ ap (λ (m : List Bool). bits_of 32 v ++ m) (marks_set t k (le_of_suc-le-suc h))
      ∙ sym (set_behind (bits_of 32 v) (marks_in t) (32 * k + j) true)
      ∙ ap₂ (λ (m : List Bool) (i : ℕ). set m i true) (sym (marks_cons v t)) e

module _ (t : List ℕ) (at : ℕ) (bare : get_or (marks_in t) at true ≡ false) where
  pub bare_within : at / 32 < length t
  bare_within = go (ltb at (length (marks_in t))) refl
    where
      go : (b : Bool) → ltb at (length (marks_in t)) ≡ b → at / 32 < length t
      go true e = omega (arith, ltb-true at (length (marks_in t)) e, length_marks t)
      go false e = absurd (true≢false (sym (get_or-eq_default (marks_in t) true (ltb-false at (length (marks_in t)) e)) ∙ bare))

  pub marks_marked : marks_in (set t (at / 32) (bit_or (get_or t (at / 32) 0) (1 * 2 ^ (at % 32) % 4294967296))) ≡ set (marks_in t) at true
  marks_marked =
      let e : 32 * (at / 32) + at % 32 ≡ at = omega arith in
      ap (λ (w : ℕ). marks_in (set t (at / 32) (bit_or (get_or t (at / 32) 0) w))) (shl_exact 1 (at % 32) 32 (omega arith) (omega arith) ∙ omega arith)
      ∙ marks_set (at % 32) (omega arith) t (at / 32) bare_within
      ∙ ap (λ (i : ℕ). set (marks_in t) i true) e
