-- The word table's laws: a record that was stored is read back and the others are as they were; the first n records one by one.
use Rattle.std.proofs.Common.{Option, Some, None}
use mathlib.Core.Path.{◌≡◌, refl, ap, ◌∙◌}
use mathlib.Core.Bool.{Bool, true, false, cond}
use mathlib.Core.Logic.{⊎_elim}
use mathlib.Core.List.{List, [], ◌∷◌, ◌++◌, map, map-append}
use Prim.Native.Nat.{ℕ, zero, suc, ◌+◌, ◌-◌, ◌*◌, ◌/◌, ◌%◌, ◌≤◌, ◌<◌}
use native.Mathlib.Nat.{eq-or-lt_of_le, le_of_suc-le-suc}
use native.Mathlib.Numerals.{add-one}
use native.Mathlib.Omega.{arith}
use borrow.Author.Tests.{ne_eqb}
use lib.Dec.{eqb}
use lib.ListN.{length, get_or, drop, length-append, length-map, get_or-append}
use lib.Seq.{length-sets, get_or_at}
use Rattle.lists.proofs.Stores.{sets_other, sets_within, sets_seven}
use Rattle.lists.proofs.Views.{drop_here, drop_none}
use Rattle.lists.proofs.Mapped.{drop_map}
use Rattle.records.specs.declared.Word.{Word as Record}
use Rattle.records.specs.Word.{meaning}
use Rattle.records.specs.Cited.Table.{number_in, before_number, before_of, marks_of, word_numbers, stored, Room, word_in, with_word, records_of, words_in, Within, AllWithin}

-- ---- a field, as a number and back

before_back : (b : Option ℕ) → before_of (before_number b) ≡ b
before_back None = refl
before_back (Some n) =
    let e : n + 1 - 1 ≡ n = omega arith in
    rw (ne_eqb (n + 1) 0 (λ z. omega arith), e)

marks_back : (a b c : Bool) → (eqb ((cond a 1 0 + cond b 2 0 + cond c 4 0) % 2) 1 ≡ a)
    × (eqb ((cond a 1 0 + cond b 2 0 + cond c 4 0) / 2 % 2) 1 ≡ b)
    × (eqb ((cond a 1 0 + cond b 2 0 + cond c 4 0) / 4 % 2) 1 ≡ c)
marks_back true true true = (refl, refl, refl)
marks_back true true false = (refl, refl, refl)
marks_back true false true = (refl, refl, refl)
marks_back true false false = (refl, refl, refl)
marks_back false true true = (refl, refl, refl)
marks_back false true false = (refl, refl, refl)
marks_back false false true = (refl, refl, refl)
marks_back false false false = (refl, refl, refl)

-- ---- one record

module _ (t : List ℕ) (i : ℕ) (w : Record) where
  pub length_with : length (with_word t i w) ≡ length t
  unfolding with_word
  length_with = length-sets t (i * 7) (word_numbers w)

  module _ (room : Room i t) where
    number_back : (j : ℕ) → j < 7 → number_in (with_word t i w) i j ≡ get_or (word_numbers w) j 0
    unfolding with_word word_numbers
    number_back j h = sets_within 0 t (i * 7) (word_numbers w) j h (omega arith)

    pub read_back : word_in (with_word t i w) i ≡ w
    unfolding word_in word_numbers
    read_back =
        let m = marks_back w.first w.punct w.sentence in
        rw (
          number_back 0 (omega arith),
          number_back 1 (omega arith),
          number_back 2 (omega arith),
          number_back 3 (omega arith),
          number_back 4 (omega arith),
          number_back 5 (omega arith),
          number_back 6 (omega arith),
          before_back w.before,
          m.0,
          m.1,
          m.2,
        )

  module _ (j : ℕ) (other : j ≡ i → ⊥) where
    number_other : (a : ℕ) → a < 7 → number_in (with_word t i w) j a ≡ number_in t j a
    unfolding with_word word_numbers
    number_other a h = sets_other 0 t (i * 7) (word_numbers w) (j * 7 + a) (λ b g e. other (omega arith))

    pub read_other : word_in (with_word t i w) j ≡ word_in t j
    unfolding word_in
    read_other =
        rw (
          number_other 0 (omega arith),
          number_other 1 (omega arith),
          number_other 2 (omega arith),
          number_other 3 (omega arith),
          number_other 4 (omega arith),
          number_other 5 (omega arith),
          number_other 6 (omega arith),
        )

-- ---- the first n records

pub records_length : (n : ℕ) (t : List ℕ) → length (records_of n t) ≡ n
unfolding records_of
records_length zero t = refl
records_length (suc n) t = let e = records_length n t in rw length-append (omega arith)

pub records_at : (n : ℕ) (t : List ℕ) (i : ℕ) (d : Record) → i < n → get_or (records_of n t) i d ≡ word_in t i
unfolding records_of
records_at zero t i d h = absurd (omega arith)
records_at (suc n) t i d h =
    ⊎_elim
    (λ (e : i ≡ n). rw e (get_or_at (records_of n t) (word_in t n) [] d n (records_length n t)))
    (λ (l : i < n). get_or-append (records_of n t) (word_in t n ∷ []) d i (rw records_length l) ∙ records_at n t i d l)
    (eq-or-lt_of_le (le_of_suc-le-suc h))

module _ (n : ℕ) (t : List ℕ) (i : ℕ) where
  pub records_drop : i < n → drop i (records_of n t) ≡ word_in t i ∷ drop (i + 1) (records_of n t)
  records_drop h =
      drop_here (word_in t i) (records_of n t) i (rw records_length h) ∙ ap (λ (w : Record). w ∷ drop (i + 1) (records_of n t)) (records_at n t i (word_in t i) h)

  pub records_end : n ≤ i → drop i (records_of n t) ≡ []
  records_end h = drop_none (word_in t i) (records_of n t) i (rw records_length h)

-- those before the one that is stored are as they were, and with it there is one more
pub records_kept : (n : ℕ) (t : List ℕ) (i : ℕ) (w : Record) → n ≤ i → records_of n (with_word t i w) ≡ records_of n t
unfolding records_of
records_kept zero t i w h = refl
records_kept (suc n) t i w h = rw (records_kept n t i w (omega arith), read_other t i w n (λ e. omega arith))

module _ (t : List ℕ) (n : ℕ) (w : Record) (room : Room n t) where
  pub records_more : records_of (n + 1) (with_word t n w) ≡ records_of n t ++ (w ∷ [])
  unfolding records_of
  records_more = rw (add-one n, records_kept n t n w (omega arith), read_back t n w room)

  pub within_more : {size : ℕ} → AllWithin size n t → Within size w → AllWithin size (n + 1) (with_word t n w)
  within_more {size} all one i h =
      ⊎_elim
      (λ (e : i ≡ n). rw (e, read_back t n w room) one)
      (λ (l : i < n). rw (read_other t n w i (λ e. omega arith)) (all i l))
      (eq-or-lt_of_le (let g : i ≤ n = omega arith in g))

-- ---- the words that they mean

module _ (notes : List ℕ) (n : ℕ) (t : List ℕ) where
  pub words_length : length (words_in notes n t) ≡ n
  unfolding words_in
  words_length = length-map (records_of n t) (meaning notes) ∙ records_length n t

  pub words_drop : (i : ℕ) → i < n → drop i (words_in notes n t) ≡ meaning notes (word_in t i) ∷ drop (i + 1) (words_in notes n t)
  unfolding words_in
  words_drop i h = rw (drop_map (meaning notes) i (records_of n t), drop_map (meaning notes) (i + 1) (records_of n t), records_drop n t i h)

  pub words_end : (i : ℕ) → n ≤ i → drop i (words_in notes n t) ≡ []
  unfolding words_in
  words_end i h = rw (drop_map (meaning notes) i (records_of n t), records_end n t i h)

  pub words_more : (w : Record) → Room n t → words_in notes (n + 1) (with_word t n w) ≡ words_in notes n t ++ (meaning notes w ∷ [])
  unfolding words_in
  words_more w room = ap (map (meaning notes)) (records_more t n w room) ∙ map-append (meaning notes) (records_of n t) (w ∷ [])

-- ---- as the code stores

pub stored_word : (t : List ℕ) (i : ℕ) (w : Record) (before marks : ℕ) → before ≡ before_number w.before → marks ≡ marks_of w
    → stored t (i * 7) w.from w.start w.end w.width before w.after marks ≡ with_word t i w
unfolding with_word word_numbers
stored_word t i w before marks b m = rw (b, m, sets_seven t (i * 7))
