-- The table filled word by word.
use Rattle.std.proofs.Common.{Result, Ok, Err}
use mathlib.Core.Path.{◌≡◌, refl, sym, ap, ◌∙◌}
use mathlib.Core.Logic.{⊎_elim}
use mathlib.Core.List.{List, [], ◌∷◌, ◌++◌, map, map-append, append_assoc, append-nil}
use Prim.Native.Nat.{ℕ, ◌+◌, ◌≤◌, ◌<◌}
use native.Mathlib.Nat.{eq-or-lt_of_le}
use native.Mathlib.Omega.{arith}
use borrow.Author.Tests.{le-leb, lt-leb}
use lib.ListN.{length, take, length-append, length-take}
use lib.Seq.{take-take}
use Rattle.records.specs.Word.{Word, meaning}
use Rattle.records.specs.Cited.Table.{Holds, Room, word_in, with_word, records_of, words_in, Within}
use Rattle.records.specs.declared.Word.{Word as Record}
use Rattle.records.proofs.Table.{length_with, read_back, read_other, records_more, within_more, words_length, words_more}
use Rattle.words.specs.Cited.Split.{Kept, places_in, WordsFilled, Split}
use Rattle.words.specs.Cited.Places.{counted}
use Rattle.words.specs.declared.TooMany.{TooMany}

-- of the whole, the first n words are in the table and the rest is left
pub record Filling (most : ℕ) (notes : List ℕ) (whole left : List Word) (ps qs : List ℕ) (n : ℕ) (t : List ℕ) : Type 0 where
  pub words : words_in notes n t ++ left ≡ whole
  pub places : places_in n t ++ qs ≡ ps
  pub kept : Kept most (length notes) n t

-- what holds of the first n records and of one more
all_more : (P : Record → Type 0) (t : List ℕ) (n : ℕ) (w : Record) → Room n t → ((i : ℕ) → i < n → P (word_in t i)) → P w
    → (i : ℕ) → i < n + 1 → P (word_in (with_word t n w) i)
all_more P t n w room all one i h =
    ⊎_elim
    (λ (e : i ≡ n). rw (e, read_back t n w room) one)
    (λ (l : i < n). rw (read_other t n w i (λ e. omega arith)) (all i l))
    (eq-or-lt_of_le (let g : i ≤ n = omega arith in g))

-- a word in the front of the notes is one of the notes
pub front_means : (notes : List ℕ) (end : ℕ) (w : Record) → Within (length (take end notes)) w → meaning (take end notes) w ≡ meaning notes w
unfolding meaning
front_means notes end w h =
    let l = length-take end notes in
    rw (take-take w.start end notes (omega (arith, h.text, h.end)), take-take w.end end notes (omega (arith, h.end)))

pub filling_first : {most : ℕ} {notes : List ℕ} {left : List Word} {qs : List ℕ} {n : ℕ} {t : List ℕ} → Kept most (length notes) n t → Filling most notes (words_in notes n t ++ left) left (places_in n t ++ qs) qs n t
filling_first k = record { words = refl; places = refl; kept = k }

-- one record more
places_more : (t : List ℕ) (n : ℕ) (w : Record) → Room n t → places_in (n + 1) (with_word t n w) ≡ places_in n t ++ (w.start ∷ [])
unfolding places_in
places_more t n w room = ap (map (λ (w : Record). w.start)) (records_more t n w room) ∙ map-append (λ (w : Record). w.start) (records_of n t) (w ∷ [])

module _ {most : ℕ} {notes : List ℕ} {whole left : List Word} {ps qs : List ℕ} {n : ℕ} {t : List ℕ} where
  module _ (f : Filling most notes whole left ps qs n t) where
    pub filling_done : left ≡ [] → qs ≡ [] → WordsFilled most notes whole ps t (Ok n)
    filling_done e q = (sym (append-nil (words_in notes n t)) ∙ rw e at f.words, sym (append-nil (places_in n t)) ∙ rw q at f.places, f.kept)

    pub filling_more : (end : ℕ) (w : Record) {rest : List Word} {gs : List ℕ} → left ≡ meaning (take end notes) w ∷ rest → qs ≡ w.start ∷ gs → n < most → Within (length (take end notes)) w → w.width ≤ length (take end notes)
        → Filling most notes whole rest ps gs (n + 1) (with_word t n w)
    filling_more end w {rest} {gs} e q more inside narrow =
        let k = f.kept in
        let h = k.held in
        let room : Room n t = omega arith in
        let l = length-take end notes in
        record {
          words = rw (words_more notes n t w room) (append_assoc (words_in notes n t) (meaning notes w ∷ []) rest ∙ rw (e, front_means notes end w inside) at f.words);
          places = rw (places_more t n w room) (append_assoc (places_in n t) (w.start ∷ []) gs ∙ rw q at f.places);
          kept = record {
            few = omega arith;
            held = rw (length_with t n w) h;
            within = within_more t n w room k.within (record { gap = inside.gap; text = inside.text; end = omega (arith, inside.end) });
            narrow = all_more (λ r. r.width ≤ length notes) t n w room k.narrow (omega arith);
          };
        }

    -- the words of a line more, or too many of them
    module _ (line rest : List Word) (e : left ≡ line ++ rest) where
      together : (words_in notes n t ++ line) ++ rest ≡ whole
      together = append_assoc (words_in notes n t) line rest ∙ rw e at f.words

      pub filling_over : most < length (words_in notes n t ++ line) → most < length whole
      filling_over l = omega (arith, l, simp (length-append (words_in notes n t ++ line) rest) at (ap length together))

      module _ (here later : List ℕ) (q : qs ≡ here ++ later) (t' : List ℕ) where
        places_together : (places_in n t ++ here) ++ later ≡ ps
        places_together = append_assoc (places_in n t) here later ∙ rw q at f.places

        pub filling_line : (m : ℕ) → WordsFilled most notes (words_in notes n t ++ line) (places_in n t ++ here) t' (Ok m) → Filling most notes whole rest ps later m t'
        filling_line m l = record { words = rw l.0 together; places = rw l.1 places_together; kept = l.2 }

-- no word is there yet
pub kept_none : (most size : ℕ) (t : List ℕ) → Holds most t → Kept most size 0 t
kept_none most size t h = record { few = omega arith; held = h; within = λ i l. absurd (omega arith); narrow = λ i l. absurd (omega arith) }

pub filling_none : {most : ℕ} {notes : List ℕ} {left : List Word} {qs : List ℕ} {t : List ℕ} → Holds most t → Filling most notes left left qs qs 0 t
unfolding words_in records_of places_in
filling_none {most = most} {notes = notes} {t = t} h = record { words = refl; places = refl; kept = kept_none most (length notes) t h }

-- what the table holds at last
pub filled_split : (most : ℕ) (notes : List ℕ) (ws : List Word) (ps : List ℕ) (t : List ℕ) (r : Result ℕ TooMany) → WordsFilled most notes ws ps t r → Split most notes ws ps t r
unfolding counted
filled_split most notes ws ps t (Ok n) f =
    let l : length ws ≡ n = sym (ap length f.0) ∙ words_length notes n t in
    let same : (m : ℕ) → ◌≡◌ {A = Result ℕ TooMany} (Ok n) (Ok m) → n ≡ m = λ m q. cc in
    record {
      count = rw (l, le-leb n most f.2.few);
      words = λ m q. rw (same m q) at f.0;
      places = λ m q. rw (same m q) at f.1;
      kept = λ m q. rw (same m q) at f.2;
    }
filled_split most notes ws ps t (Err over) f = record {
  count = rw (lt-leb (length ws) most f);
  words = λ m q. absurd (cc);
  places = λ m q. absurd (cc);
  kept = λ m q. absurd (cc);
}
