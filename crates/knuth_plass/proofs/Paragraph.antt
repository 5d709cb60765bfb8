-- A paragraph's rounds: one is the definition's, the next begins where it ends, and the first begins with the paragraph's start.
use mathlib.Core.Path.{◌≡◌, refl, ap, ap₂, ◌∙◌}
use mathlib.Core.Bool.{Bool, true, false, ◌&&◌, ◌||◌}
use mathlib.Core.List.{List, [], ◌∷◌, map}
use Prim.Native.Nat.{ℕ, ◌+◌, ◌^◌, ◌≤◌, ◌<◌}
use native.Mathlib.Numerals.{add-one}
use native.Mathlib.Omega.{arith}
use borrow.Author.Tests.{eqb-true, eqb-false}
use lib.Dec.{eqb}
use lib.ListN.{length, set, take, drop, length-set}
use lib.Seq.{take-suc-set}
use Rattle.records.specs.Word.{Word, meaning}
use Rattle.records.specs.Cited.Table.{word_in, words_in}
use Rattle.records.specs.declared.Word.{Word as WordRecord}
use Rattle.records.proofs.Table.{words_drop, words_end}
use Rattle.spacing.specs.Spacing.{added_space}
use Rattle.spacing.specs.declared.Setting.{Setting}
use Rattle.demerits.specs.Demerits.{no_ratio}
use Rattle.knuth_plass.specs.declared.Break.{Break as Record}
use Rattle.knuth_plass.specs.declared.State.{State}
use Rattle.knuth_plass.specs.declared.Standing.{Standing}
use Rattle.knuth_plass.specs.KnuthPlass.{Break, Active, Offer, reduced, settled, with_offer, round, is_last, sentence_behind, first_break, rounds_from}
use Rattle.knuth_plass.specs.Cited.Table.{ratio_of, Tables, Sized, with_break, seen, break_meant, Sound}
use Rattle.knuth_plass.specs.Cited.Round.{Limits, turn_of, RoundReady, breaks_listed, standing, Done, Settled, RoundIs, begin, RoundsAre}
use Rattle.knuth_plass.proofs.Table.{sized_with, length_with, read_back}
use Rattle.knuth_plass.proofs.Path.{path_start}

-- ---- one round

module _ (g : Setting) (last sentence : Bool) (i : ℕ) (w : WordRecord) (space weight : ℕ) (st : Standing) (t : Tables) (a : List ℕ) where
  pub round_is : (t₁ : Tables) (a₁ : List ℕ) (s : State) (t₂ : Tables) (a₂ : List ℕ) (r : Standing) → space ≡ added_space g.uniform w.first sentence false
      → ((notes : List ℕ) → Done g (turn_of last i w space weight) st (map (reduced st.reduction) (breaks_listed st.count t a)) t₁ a₁ s notes) → Settled g (turn_of last i w space weight) st t₁ a₁ s t₂ a₂ r
      → RoundIs g last sentence i w st t a t₂ a₂ r
  unfolding round meaning
  round_is t₁ a₁ s t₂ a₂ r e done settles = record {
    ready = settles.ready;
    is = λ notes.
        let active = map (reduced st.reduction) (breaks_listed st.count t a) in
        settles.is notes active (done notes).found
        ∙ ap₂ (λ (bs : List Break) (o : Offer). settled g i space (meaning notes w) active (with_offer bs o)) (done notes).stayed (done notes).best
        ∙ rw e;
  }

-- ---- the sentence mark of the next word

module _ (table : List ℕ) (n i : ℕ) (notes : List ℕ) (v : Word) where
  pub behind_last : n ≤ i + 1 → true ≡ sentence_behind v (drop (i + 1) (words_in notes n table))
  behind_last h = rw (words_end notes n table (i + 1) h)

  pub behind_next : (w : WordRecord) → w ≡ word_in table (i + 1) → i + 1 < n → (w.sentence || w.first && v.ends_punct) ≡ sentence_behind v (drop (i + 1) (words_in notes n table))
  unfolding meaning
  behind_next w e h = rw (words_drop notes n table (i + 1) h, ← e)

-- ---- all rounds

module _ (table : List ℕ) (n i : ℕ) (notes : List ℕ) where
  pub last_is : i < n → eqb (i + 1) n ≡ is_last (drop (i + 1) (words_in notes n table))
  last_is h = by (eqb (i + 1) n) refl where
    by : (x : Bool) → eqb (i + 1) n ≡ x → x ≡ is_last (drop (i + 1) (words_in notes n table))
    by true e = let q = eqb-true (i + 1) n e in rw (words_end notes n table (i + 1) (omega arith))
    by false e = let q = eqb-false (i + 1) n e in rw (words_drop notes n table (i + 1) (omega arith))

  module _ (g : Setting) (sentence : Bool) (b : Active) where
    pub rounds_next : (next : Bool) (c : Active) → i < n → c ≡ round g (eqb (i + 1) n) sentence i (meaning notes (word_in table i)) b
        → next ≡ sentence_behind (meaning notes (word_in table i)) (drop (i + 1) (words_in notes n table))
        → rounds_from g next (i + 1) c (drop (i + 1) (words_in notes n table)) ≡ rounds_from g sentence i b (drop i (words_in notes n table))
    unfolding rounds_from
    rounds_next next c h e f =
        rw (words_drop notes n table i h, e, f, last_is h)
        (ap (λ (m : ℕ). rounds_from g (sentence_behind (meaning notes (word_in table i)) (drop (i + 1) (words_in notes n table))) m (round g (is_last (drop (i + 1) (words_in notes n table))) sentence i (meaning notes (word_in table i)) b) (drop (i + 1) (words_in notes n table))) (add-one i))

    pub rounds_done : n ≤ i → b ≡ rounds_from g sentence i b (drop i (words_in notes n table))
    unfolding rounds_from
    rounds_done h = rw (words_end notes n table i h)

pub rounds_are : (g : Setting) (n i : ℕ) (table : List ℕ) (t : Tables) (a : List ℕ) (st : Standing) (sentence : Bool) → i ≤ n → n ≤ i → n ≤ length t → RoundReady i st t a
    → ((notes : List ℕ) → rounds_from g sentence i (standing st t a) (drop i (words_in notes n table)) ≡ rounds_from g false 1 (begin g (meaning notes (word_in table 0))) (drop 1 (words_in notes n table)))
    → RoundsAre g n table t a st
rounds_are g n i table t a st sentence h k room ready is =
    let e : i ≡ n = omega arith in
    record { ready = rw e at ready; holds = room; is = λ notes. rounds_done table n i notes g sentence (standing st t a) k ∙ is notes }

-- ---- the paragraph's start

module _ (g : Setting) (w : WordRecord) (r : ℕ) (zero-ratio : ratio_of r ≡ no_ratio) (limits : Limits g) (small : w.width < 2 ^ 31)
    (t : Tables) (a : List ℕ) (t₁ : Tables) (a₁ : List ℕ) (sized : Sized t) (active : length a ≡ length t) (some : 0 < length t) where
  abbrev start : Record
  start = record { previous = 0; word = 0; before = false; demerits = 0; ratio = r; columns = g.first + w.width; fresh = false }

  abbrev one : Standing
  one = record { count = 1; size = 1; reduction = 0 }

  front : a₁ ≡ set a 0 0 → take 1 a₁ ≡ 0 ∷ []
  front put = rw put (take-suc-set a 0 0 (omega arith))

  sound : Sound 1 start
  sound = let f = limits.first in record { ratio = rw zero-ratio tt; columns = omega arith; demerits = omega arith; word = omega arith }

  pub ready_first : t₁ ≡ with_break t 0 start → a₁ ≡ set a 0 0 → RoundReady 1 one t₁ a₁
  ready_first stored put = record {
    filled = rw stored (record {
      sized = sized_with t 0 start sized;
      sound = λ j h. (let z : j ≡ 0 = omega arith in rw (z, read_back t 0 start some sized) sound);
      down = λ j p h. absurd (omega arith);
    });
    active = rw (put, stored, length-set, length_with t 0 start) active;
    few = omega arith;
    some = omega arith;
    room = omega arith;
    ascends = rw (front put) (omega arith, omega arith);
  }

  pub begins : t₁ ≡ with_break t 0 start → a₁ ≡ set a 0 0 → (notes : List ℕ) → standing one t₁ a₁ ≡ begin g (meaning notes w)
  unfolding begin first_break break_meant seen meaning
  begins stored put notes = rw (front put, path_start t₁ 0 (omega arith), stored, read_back t 0 start some sized, zero-ratio)
