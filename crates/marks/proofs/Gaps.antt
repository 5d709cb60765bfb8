-- How far the next mark is: the marks of a word, then of the words after it.
use mathlib.Core.Path.{◌≡◌, refl, sym, ap, ap₂, ◌∙◌, subst}
use mathlib.Core.Bool.{Bool, false}
use mathlib.Core.List.{List, [], ◌∷◌, ◌++◌}
use Prim.Native.Nat.{ℕ, zero, suc, ◌+◌, ◌-◌, ◌*◌, ◌/◌, ◌%◌, ◌^◌, ◌≤◌, ◌<◌}
use native.Mathlib.Nat.{not-suc-le-zero, le_of_suc-le-suc, zero-add, zero-sub, suc-sub-suc, sub-zero, div-one, pow-suc, pos_of_ne-zero}
use native.Mathlib.Omega.{arith}
use lib.Count.{count_trailing_zeros, under}
use lib.Dec.{eqb}
use lib.ListN.{length, get_or, take, drop, drop_of_length-le, length-drop}
use lib.Pow.{shr-shr, shr_lt}
use lib.Seq.{take_all, drop-nil, drop-drop, drop-append-le, drop-append-add}
use Rattle.std.specs.List.{AllWithin, HoldsAt}
use Rattle.lists.proofs.Views.{drop_here}
use Rattle.marks.specs.Cited.Marks.{bits_of, marks_in, to_mark}
use Rattle.marks.proofs.Laws.{marks_cons, length_bits, length_marks, to_mark_within}

-- ---- a word

-- the places from its place j on
bits_from : (n j v : ℕ) → drop j (bits_of n v) ≡ bits_of (n - j) (v / 2 ^ j)
unfolding bits_of
bits_from n zero v = ap₂ bits_of (sym (sub-zero n)) (sym (div-one v))
bits_from zero (suc j) v = ap (λ (n : ℕ). bits_of n (v / 2 ^ suc j)) (sym (zero-sub (suc j)))
bits_from (suc n) (suc j) v =
    let e : 1 + j ≡ suc j = omega arith in
    bits_from n j (v / 2) ∙ ap₂ bits_of (sym (suc-sub-suc n j)) (shr-shr v 1 j ∙ ap (λ (k : ℕ). v / 2 ^ k) e)

-- how far a mark is that is m after n places without one
abbrev pub further : ℕ → ℕ → ℕ
further n zero = 0
further n (suc m) = suc (n + m)

further_none : (m : ℕ) → further 0 m ≡ m
further_none zero = refl
further_none (suc m) = ap suc (zero-add m)

further_both : (a b m : ℕ) → further a (further b m) ≡ further (a + b) m
further_both a b zero = refl
further_both a b (suc m) = omega arith

to_mark_next : (bs : List Bool) → to_mark (false ∷ bs) ≡ further 1 (to_mark bs)
unfolding to_mark
to_mark_next bs = go (to_mark bs)
  where
    go : (m : ℕ) → elim m [ zero ↦ 0 | suc k ↦ suc (suc k) ] ≡ further 1 m
    go zero = refl
    go (suc m) = omega arith

-- n places of a word that has a mark in them
to_mark_word : (n m v : ℕ) (bs : List Bool) → 0 < v → v < 2 ^ n → n ≤ m → to_mark (bits_of n v ++ bs) ≡ suc (count_trailing_zeros m v)
unfolding bits_of count_trailing_zeros
to_mark_word zero m v bs p l h = absurd (omega arith)
to_mark_word (suc n) zero v bs p l h = absurd (not-suc-le-zero h)
to_mark_word (suc n) (suc m) v bs p l h = go (v % 2) (omega arith) (λ e. to_mark_word n m (v / 2) bs (omega arith) (omega (arith, pow-suc 2 n)) (le_of_suc-le-suc h))
  where
    go : (d : ℕ) → d < 2 → (d ≡ 0 → to_mark (bits_of n (v / 2) ++ bs) ≡ suc (count_trailing_zeros m (v / 2))) → to_mark (eqb d 1 ∷ (bits_of n (v / 2) ++ bs)) ≡ suc (under d (count_trailing_zeros m (v / 2)))
    go zero l' later = to_mark_next (bits_of n (v / 2) ++ bs) ∙ ap (further 1) (later refl) ∙ omega arith
    go (suc zero) l' later = unfold to_mark in refl
    go (suc (suc d)) l' later = absurd (omega arith)

-- n places that have none
to_mark_past : (n : ℕ) (bs : List Bool) → to_mark (bits_of n 0 ++ bs) ≡ further n (to_mark bs)
unfolding bits_of
to_mark_past zero bs = sym (further_none (to_mark bs))
to_mark_past (suc n) bs =
    let e : 1 + n ≡ suc n = omega arith in
    to_mark_next (bits_of n 0 ++ bs) ∙ ap (further 1) (to_mark_past n bs) ∙ further_both 1 n (to_mark bs) ∙ ap (λ (k : ℕ). further k (to_mark bs)) e

-- ---- the table

marks_from : (t : List ℕ) (k : ℕ) → drop (32 * k) (marks_in t) ≡ marks_in (drop k t)
marks_from t zero = refl
marks_from [] (suc k) = unfold marks_in in drop-nil (32 * suc k)
marks_from (v ∷ t) (suc k) =
    let e : 32 * suc k ≡ length (bits_of 32 v) + 32 * k = omega (arith, length_bits 32 v) in
    ap₂ drop e (marks_cons v t) ∙ drop-append-add (bits_of 32 v) (marks_in t) (32 * k) ∙ marks_from t k

module _ (t : List ℕ) (k : ℕ) where
  gap_none : length t ≤ k → to_mark (marks_in (drop k t)) ≡ 0
  gap_none h = ap (λ (s : List ℕ). to_mark (marks_in s)) (drop_of_length-le t h) ∙ unfold marks_in to_mark in refl

  module _ (less : k < length t) where
    here : marks_in (drop k t) ≡ bits_of 32 (get_or t k 0) ++ marks_in (drop (k + 1) t)
    here = ap marks_in (drop_here 0 t k less) ∙ marks_cons (get_or t k 0) (drop (k + 1) t)

    gap_here : (get_or t k 0 ≡ 0 → ⊥) → get_or t k 0 < 2 ^ 32 → to_mark (marks_in (drop k t)) ≡ suc (count_trailing_zeros 32 (get_or t k 0))
    gap_here p l = ap to_mark here ∙ to_mark_word 32 32 (get_or t k 0) (marks_in (drop (k + 1) t)) (pos_of_ne-zero p) l (omega arith)

    gap_on : get_or t k 0 ≡ 0 → to_mark (marks_in (drop k t)) ≡ further 32 (to_mark (marks_in (drop (k + 1) t)))
    gap_on e = ap to_mark (here ∙ ap (λ (v : ℕ). bits_of 32 v ++ marks_in (drop (k + 1) t)) e) ∙ to_mark_past 32 (marks_in (drop (k + 1) t))

-- from a place that need not be a word's lowest
module _ (t : List ℕ) (from : ℕ) where
  module _ (less : from / 32 < length t) where
    within : drop from (marks_in t) ≡ bits_of (32 - from % 32) (get_or t (from / 32) 0 / 2 ^ (from % 32)) ++ marks_in (drop (from / 32 + 1) t)
    within =
        let e : from ≡ 32 * (from / 32) + from % 32 = omega arith in
        let bits = bits_of 32 (get_or t (from / 32) 0) in
        ap (λ (k : ℕ). drop k (marks_in t)) e
        ∙ sym (drop-drop (from % 32) (32 * (from / 32)) (marks_in t))
        ∙ ap (drop (from % 32)) (marks_from t (from / 32) ∙ here t (from / 32) less)
        ∙ drop-append-le (from % 32) bits (marks_in (drop (from / 32 + 1) t)) (omega (arith, length_bits 32 (get_or t (from / 32) 0)))
        ∙ ap (λ (bs : List Bool). bs ++ marks_in (drop (from / 32 + 1) t)) (bits_from 32 (from % 32) (get_or t (from / 32) 0))

    -- w is the word
    module _ (w : ℕ) (is : get_or t (from / 32) 0 ≡ w) where
      pub gap_in_word : (w / 2 ^ (from % 32) ≡ 0 → ⊥) → w < 2 ^ 32 → to_mark (drop from (marks_in t)) ≡ suc (count_trailing_zeros 32 (w / 2 ^ (from % 32)))
      gap_in_word p l =
          let j = from % 32 in
          let e : 32 ≡ 32 - j + j = omega arith in
          ap to_mark within
          ∙ ap (λ (v : ℕ). to_mark (bits_of (32 - j) (v / 2 ^ j) ++ marks_in (drop (from / 32 + 1) t))) is
          ∙ to_mark_word (32 - j) 32 (w / 2 ^ j) (marks_in (drop (from / 32 + 1) t)) (pos_of_ne-zero p) (shr_lt (32 - j) j (subst (λ (k : ℕ). w < 2 ^ k) e l)) (omega arith)

      -- m is how far the first mark of the words behind it is
      pub gap_behind_word : w / 2 ^ (from % 32) ≡ 0 → (m : ℕ) → m ≡ to_mark (marks_in (take (length t - (from / 32 + 1)) (drop (from / 32 + 1) t))) → to_mark (drop from (marks_in t)) ≡ further (32 - from % 32) m
      gap_behind_word e m far =
          let bs = marks_in (drop (from / 32 + 1) t) in
          let n = length-drop (from / 32 + 1) t in
          let whole : take (length t - (from / 32 + 1)) (drop (from / 32 + 1) t) ≡ drop (from / 32 + 1) t = take_all (length t - (from / 32 + 1)) (drop (from / 32 + 1) t) (omega arith) in
          ap to_mark (within ∙ ap (λ (v : ℕ). bits_of (32 - from % 32) (v / 2 ^ (from % 32)) ++ bs) is ∙ ap (λ (v : ℕ). bits_of (32 - from % 32) v ++ bs) e)
          ∙ to_mark_past (32 - from % 32) bs
          ∙ ap (further (32 - from % 32)) (sym (far ∙ ap (λ (s : List ℕ). to_mark (marks_in s)) whole))

  pub gap_past : length t ≤ from / 32 → to_mark (drop from (marks_in t)) ≡ 0
  gap_past h = ap to_mark (drop_of_length-le (marks_in t) {i = from} (omega (arith, length_marks t))) ∙ unfold to_mark in refl

pub further_some : (n m : ℕ) → (m ≡ 0 → ⊥) → further n m ≡ n + m
further_some n zero h = absurd (h refl)
further_some n (suc m) h = omega arith

-- no distance in a table is past its length
pub gap_few : (t : List ℕ) → to_mark (marks_in t) ≤ 32 * length t
gap_few t = omega (arith, to_mark_within (marks_in t), length_marks t)

-- ---- whole words: the first i of them have no mark
passed : (t : List ℕ) (i : ℕ) → i ≤ length t → ((k : ℕ) → k < i → get_or t k 0 ≡ 0) → to_mark (marks_in t) ≡ further (32 * i) (to_mark (marks_in (drop i t)))
passed t zero h bare = sym (further_none (to_mark (marks_in t)))
passed [] (suc i) h bare = absurd (not-suc-le-zero h)
passed (v ∷ t) (suc i) h bare =
    let m = to_mark (marks_in (drop i t)) in
    let q : 32 + 32 * i ≡ 32 * suc i = omega arith in
    gap_on (v ∷ t) 0 (omega arith) (bare 0 (omega arith))
    ∙ ap (further 32) (passed t i (le_of_suc-le-suc h) (λ k l. bare (suc k) (omega arith)))
    ∙ further_both 32 (32 * i) m
    ∙ ap (λ (n : ℕ). further n m) q

module _ (t : List ℕ) where
  pub all_bare : AllWithin (λ v. v ≡ 0) t 0 (length t) → 0 ≡ to_mark (marks_in t)
  all_bare bare = sym (passed t (length t) (omega arith) (λ k l. bare k 0 (omega arith) l) ∙ ap (further (32 * length t)) (gap_none t (length t) (omega arith)))

  pub first_marked : (i : ℕ) → (i < length t) × HoldsAt (λ v. v ≡ 0 → ⊥) t i × AllWithin (λ v. v ≡ 0) t 0 i → get_or t i 0 < 2 ^ 32 → 32 * i + suc (count_trailing_zeros 32 (get_or t i 0)) ≡ to_mark (marks_in t)
  first_marked i h l =
      sym (passed t i (omega arith) (λ k l. h.2 k 0 (omega arith) l) ∙ ap (further (32 * i)) (gap_here t i h.0 (h.1 0) l) ∙ omega arith)
