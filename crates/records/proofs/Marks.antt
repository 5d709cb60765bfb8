-- The marks' laws: a mark that is set is read back, the others are as they were, and no word is changed; the first n marks one by one.
use mathlib.Core.Path.{◌≡◌, refl, sym, ap, ◌∙◌}
use mathlib.Core.Bool.{Bool, true, false, cond}
use mathlib.Core.Logic.{⊎_elim}
use mathlib.Core.List.{List, [], ◌∷◌, map}
use Prim.Native.Nat.{ℕ, zero, suc, ◌+◌, ◌-◌, ◌*◌, ◌/◌, ◌%◌, ◌≤◌, ◌<◌}
use native.Mathlib.Nat.{eq-or-lt_of_le, le_of_suc-le-suc}
use native.Mathlib.Omega.{arith}
use borrow.Author.Tests.{eqb-true, eqb-false}
use lib.Dec.{eqb}
use lib.ListN.{length, get_or, length-set, length-append, get_or-append}
use lib.Seq.{slice, get_or_at, get_or-set_same, get_or-set_other}
use Rattle.lists.proofs.Remaining.{slice_here, slice_none}
use Rattle.records.specs.Word.{meaning}
use Rattle.records.specs.Cited.Table.{number_in, Room, Holds, word_in, records_of, words_in}
use Rattle.records.specs.Cited.Marks.{mark_in, with_mark, with_marks, marks_in, MarkedBy, MarkedUpTo}

-- ---- one mark of a table

bits_back : (x : ℕ) (b : Bool) → (eqb ((x % 8 + cond b 8 0) / 8 % 2) 1 ≡ b)
    × ((x % 8 + cond b 8 0) % 2 ≡ x % 2)
    × ((x % 8 + cond b 8 0) / 2 % 2 ≡ x / 2 % 2)
    × ((x % 8 + cond b 8 0) / 4 % 2 ≡ x / 4 % 2)
bits_back x true = let e : (x % 8 + 8) / 8 % 2 ≡ 1 = omega arith in (rw e, omega arith, omega arith, omega arith)
bits_back x false = let e : (x % 8 + 0) / 8 % 2 ≡ 0 = omega arith in (rw e, omega arith, omega arith, omega arith)

module _ (t : List ℕ) (i : ℕ) (b : Bool) where
  length_mark : length (with_mark t i b) ≡ length t
  unfolding with_mark
  length_mark = length-set t (i * 7 + 6) _

  -- every other number is as it was
  mark_keeps : (k : ℕ) → (k ≡ i * 7 + 6 → ⊥) → get_or (with_mark t i b) k 0 ≡ get_or t k 0
  unfolding with_mark
  mark_keeps k ne = get_or-set_other t (i * 7 + 6) k _ 0 ne

  mark_other : (j : ℕ) → (j ≡ i → ⊥) → mark_in (with_mark t i b) j ≡ mark_in t j
  mark_other j ne = rw (mark_keeps (j * 7 + 6) (λ e. ne (omega arith)))

  module _ (room : Room i t) where
    mark_number : number_in (with_mark t i b) i 6 ≡ number_in t i 6 % 8 + cond b 8 0
    unfolding with_mark
    mark_number = get_or-set_same t (i * 7 + 6) _ 0 (omega arith)

    mark_back : mark_in (with_mark t i b) i ≡ b
    mark_back = rw mark_number (bits_back (number_in t i 6) b).0

    word_here : word_in (with_mark t i b) i ≡ word_in t i
    unfolding word_in
    word_here =
        let m = bits_back (number_in t i 6) b in
        rw (
          mark_number,
          mark_keeps (i * 7 + 0) (λ e. omega arith),
          mark_keeps (i * 7 + 1) (λ e. omega arith),
          mark_keeps (i * 7 + 2) (λ e. omega arith),
          mark_keeps (i * 7 + 3) (λ e. omega arith),
          mark_keeps (i * 7 + 4) (λ e. omega arith),
          mark_keeps (i * 7 + 5) (λ e. omega arith),
          m.1,
          m.2,
          m.3,
        )

    word_there : (j : ℕ) → (j ≡ i → ⊥) → word_in (with_mark t i b) j ≡ word_in t j
    unfolding word_in
    word_there j ne =
        rw (
          mark_keeps (j * 7 + 0) (λ e. ne (omega arith)),
          mark_keeps (j * 7 + 1) (λ e. ne (omega arith)),
          mark_keeps (j * 7 + 2) (λ e. ne (omega arith)),
          mark_keeps (j * 7 + 3) (λ e. ne (omega arith)),
          mark_keeps (j * 7 + 4) (λ e. ne (omega arith)),
          mark_keeps (j * 7 + 5) (λ e. ne (omega arith)),
          mark_keeps (j * 7 + 6) (λ e. ne (omega arith)),
        )

    -- a mark changes no word
    pub mark_word : (j : ℕ) → word_in (with_mark t i b) j ≡ word_in t j
    mark_word j = go (eqb j i) refl
      where
        go : (x : Bool) → eqb j i ≡ x → word_in (with_mark t i b) j ≡ word_in t j
        go true e = rw (eqb-true j i e) word_here
        go false e = word_there j (eqb-false j i e)

-- ---- the marks of the first n records

module _ (t : List ℕ) where
  pub marks_length : (n : ℕ) → length (marks_in n t) ≡ n
  unfolding marks_in
  marks_length zero = refl
  marks_length (suc n) = let e = marks_length n in rw length-append (omega arith)

  pub marks_at : (n i : ℕ) (d : Bool) → i < n → get_or (marks_in n t) i d ≡ mark_in t i
  unfolding marks_in
  marks_at zero i d h = absurd (omega arith)
  marks_at (suc n) i d h =
      ⊎_elim
      (λ (e : i ≡ n). rw e (get_or_at (marks_in n t) (mark_in t n) [] d n (marks_length n)))
      (λ (l : i < n). get_or-append (marks_in n t) (mark_in t n ∷ []) d i (rw marks_length l) ∙ marks_at n i d l)
      (eq-or-lt_of_le (le_of_suc-le-suc h))

  pub marks_from : (n i : ℕ) → i < n → slice i n (marks_in n t) ≡ mark_in t i ∷ slice (i + 1) n (marks_in n t)
  marks_from n i h =
      slice_here (marks_in n t) i n false h (rw marks_length (omega arith)) ∙ ap (λ (b : Bool). b ∷ slice (i + 1) n (marks_in n t)) (marks_at n i false h)

-- ---- marks set one after the other

length_marks : (t : List ℕ) (i : ℕ) (bs : List Bool) → length (with_marks t i bs) ≡ length t
unfolding with_marks
length_marks t i [] = refl
length_marks t i (b ∷ bs) = length_marks (with_mark t i b) (i + 1) bs ∙ length_mark t i b

marks_before : (t : List ℕ) (i : ℕ) (bs : List Bool) (j : ℕ) → j < i → mark_in (with_marks t i bs) j ≡ mark_in t j
unfolding with_marks
marks_before t i [] j h = refl
marks_before t i (b ∷ bs) j h = marks_before (with_mark t i b) (i + 1) bs j (omega arith) ∙ mark_other t i b j (λ e. omega arith)

marks_word : (t : List ℕ) (i : ℕ) (bs : List Bool) → Holds (i + length bs) t → (j : ℕ) → word_in (with_marks t i bs) j ≡ word_in t j
unfolding with_marks
marks_word t i [] h j = refl
marks_word t i (b ∷ bs) h j =
    marks_word (with_mark t i b) (i + 1) bs (rw length_mark (omega arith)) j ∙ mark_word t i b (omega arith) j

marks_say : (t : List ℕ) (i n : ℕ) (bs : List Bool) → i + length bs ≡ n → Holds n t → slice i n (marks_in n (with_marks t i bs)) ≡ bs
unfolding with_marks
marks_say t i n [] e h = slice_none (marks_in n t) i n (omega arith)
marks_say t i n (b ∷ bs) e h =
    let u = with_mark t i b in
    let first : mark_in (with_marks u (i + 1) bs) i ≡ b = marks_before u (i + 1) bs i (omega arith) ∙ mark_back t i b (omega arith) in
    marks_from (with_marks u (i + 1) bs) n i (omega arith)
    ∙ rw (first, marks_say u (i + 1) n bs (omega arith) (rw length_mark h))

pub marked_by : (n : ℕ) (t : List ℕ) (breaks : List Bool) (t' : List ℕ) → 1 ≤ n → Holds n t → length breaks ≡ n - 1
    → t' ≡ with_marks t 1 breaks → MarkedBy n t breaks t'
marked_by n t breaks t' some held l e = record {
  is = e;
  says = rw e (marks_say t 1 n breaks (omega arith) held);
  words = λ j. rw e (marks_word t 1 breaks (omega arith) j);
  sized = ap length e ∙ length_marks t 1 breaks;
}

-- ---- words that are as they were

records_same : (n : ℕ) (t t' : List ℕ) → ((j : ℕ) → j < n → word_in t' j ≡ word_in t j) → records_of n t' ≡ records_of n t
unfolding records_of
records_same zero t t' e = refl
records_same (suc n) t t' e = rw (records_same n t t' (λ j h. e j (omega arith)), e n (omega arith))

pub words_same : (notes : List ℕ) (n : ℕ) (t t' : List ℕ) → ((j : ℕ) → j < n → word_in t' j ≡ word_in t j) → words_in notes n t' ≡ words_in notes n t
unfolding words_in
words_same notes n t t' e = ap (map (meaning notes)) (records_same n t t' e)

-- ---- marks set in any order

pub up_to_none : (n : ℕ) (t : List ℕ) → MarkedUpTo n t t (mark_in t)
up_to_none n t = record { sized = refl; marks = λ j h. refl; words = λ j h. refl; beyond = λ k h. refl }

module _ {n : ℕ} {old new : List ℕ} {says : ℕ → Bool} (m : MarkedUpTo n old new says) (held : Holds n old) where
  set_by : (at : ℕ) (b : Bool) (j : ℕ) (x : Bool) → eqb at j ≡ x → at < n → j < n → mark_in (with_mark new at b) j ≡ cond x b (says j)
  set_by at b j true e h k = let s = m.sized in rw (← eqb-true at j e) (mark_back new at b (omega arith))
  set_by at b j false e h k = mark_other new at b j (λ q. eqb-false at j e (sym q)) ∙ m.marks j k

  -- one of them is set anew
  pub up_to_set : (at : ℕ) (b : Bool) → at < n → MarkedUpTo n old (with_mark new at b) (λ (j : ℕ). cond (eqb at j) b (says j))
  up_to_set at b h = record {
    sized = length_mark new at b ∙ m.sized;
    marks = λ j k. set_by at b j (eqb at j) refl h k;
    words = λ j k. let s = m.sized in mark_word new at b (omega arith) j ∙ m.words j k;
    beyond = λ k g. mark_keeps new at b k (λ e. omega arith) ∙ m.beyond k g;
  }

  -- what they say may be told otherwise
  pub up_to_as : (says' : ℕ → Bool) → ((j : ℕ) → j < n → says j ≡ says' j) → MarkedUpTo n old new says'
  up_to_as says' e = record { sized = m.sized; marks = λ j k. m.marks j k ∙ e j k; words = m.words; beyond = m.beyond }
