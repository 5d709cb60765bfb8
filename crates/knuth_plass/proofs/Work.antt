-- The slice that is lent to the rounds: words in front, break records after them. A part comes home into its place, and the rest is as it was.
use mathlib.Core.Path.{◌≡◌, sym, ap, ◌∙◌}
use mathlib.Core.Bool.{Bool, false}
use mathlib.Core.List.{List, ◌++◌}
use Prim.Native.Nat.{ℕ, ◌+◌, ◌-◌, ◌*◌, ◌^◌, ◌≤◌, ◌<◌}
use native.Mathlib.Omega.{arith}
use lib.ListN.{length, get_or, set, take, drop, length-append, length-drop}
use lib.Seq.{length-take-le, take_at, drop_at, drop-drop, get_or-take, get_or-drop, ext_get_or}
use Rattle.records.specs.Word.{meaning}
use Rattle.records.specs.declared.Word.{Word as WordRecord}
use Rattle.records.specs.Cited.Table.{number_in, word_in, words_in}
use Rattle.records.specs.Cited.Marks.{MarkedUpTo}
use Rattle.records.proofs.Marks.{words_same}
use Rattle.spacing.specs.declared.Setting.{Setting}
use Rattle.demerits.specs.Demerits.{no_ratio}
use Rattle.knuth_plass.specs.declared.Standing.{Standing}
use Rattle.knuth_plass.specs.declared.Told.{Told}
use Rattle.knuth_plass.specs.KnuthPlass.{sentence_behind}
use Rattle.knuth_plass.specs.Cited.Table.{ratio_of, records_part, with_break, Tables, Sized, table_in, active_in}
use Rattle.knuth_plass.specs.Cited.Round.{Limits, begin, Begun, Lent, Worked, RoundIs}
use Rattle.knuth_plass.specs.Cited.Makers.{ToldIs}
use Rattle.knuth_plass.proofs.Table.{table_length, active_sized}
use Rattle.knuth_plass.proofs.Paragraph.{ready_first, begins}

module _ (n : ℕ) (work : List ℕ) (lent : Lent n work) where
  pub part_length : length (records_part n work) ≡ n * 8
  part_length = let r = lent.room in length-take-le (n * 15 - n * 7) (drop (n * 7) work) (rw length-drop (omega arith)) ∙ omega arith

  -- there is room for a break a word
  pub part_room : length (table_in (records_part n work)) ≡ n
  part_room = rw (table_length (records_part n work), part_length) (omega arith)

  pub part_sized : Sized (table_in (records_part n work))
  part_sized = record { few = rw part_room lent.few }

-- ---- a part that was lent and has come home

module _ (n : ℕ) (work : List ℕ) (lent : Lent n work) (part work₁ : List ℕ) (same : length part ≡ length (records_part n work))
    (home : work₁ ≡ take (n * 7) work ++ (part ++ drop (n * 15 - n * 7) (drop (n * 7) work))) where
  front : length (take (n * 7) work) ≡ n * 7
  front = let r = lent.room in length-take-le (n * 7) work (omega arith)

  sized : length part ≡ n * 15 - n * 7
  sized = same ∙ part_length n work lent ∙ omega arith

  behind : drop (n * 7) work₁ ≡ part ++ drop (n * 15 - n * 7) (drop (n * 7) work)
  behind = rw home (drop_at (take (n * 7) work) (part ++ drop (n * 15 - n * 7) (drop (n * 7) work)) (n * 7) front)

  pub part_home : records_part n work₁ ≡ part
  part_home = rw behind (take_at part (drop (n * 15 - n * 7) (drop (n * 7) work)) (n * 15 - n * 7) sized)

  same_beyond : (xs : List ℕ) → drop (n * 15) xs ≡ drop (n * 15 - n * 7) (drop (n * 7) xs)
  same_beyond xs = let e : n * 7 + (n * 15 - n * 7) ≡ n * 15 = omega arith in sym (drop-drop (n * 15 - n * 7) (n * 7) xs ∙ rw e)

  pub worked_home : Worked n work work₁
  worked_home = record {
    sized = let r = lent.room in rw (home, length-append, length-append, front, same, part_length n work lent, length-drop, length-drop) (omega arith);
    words = rw home (take_at (take (n * 7) work) (part ++ drop (n * 15 - n * 7) (drop (n * 7) work)) (n * 7) front);
    beyond = same_beyond work₁ ∙ rw behind (drop_at part (drop (n * 15 - n * 7) (drop (n * 7) work)) (n * 15 - n * 7) sized) ∙ sym (same_beyond work);
  }

-- ---- what is as it was

module _ (n : ℕ) (work work₁ : List ℕ) (worked : Worked n work work₁) where
  pub worked_then : (work₂ : List ℕ) → Worked n work₁ work₂ → Worked n work work₂
  worked_then work₂ next = record {
    sized = next.sized ∙ worked.sized;
    words = next.words ∙ worked.words;
    beyond = next.beyond ∙ worked.beyond;
  }

  pub worked_lent : Lent n work → Lent n work₁
  worked_lent lent = record { few = lent.few; room = rw worked.sized lent.room }

  same_number : (j a : ℕ) → j < n → a < 7 → number_in work₁ j a ≡ number_in work j a
  same_number j a h k =
      let l : j * 7 + a < n * 7 = omega arith in
      sym (get_or-take (n * 7) work₁ (j * 7 + a) 0 l) ∙ ap (λ (xs : List ℕ). get_or xs (j * 7 + a) 0) worked.words ∙ get_or-take (n * 7) work (j * 7 + a) 0 l

  pub worked_word : (j : ℕ) → j < n → word_in work₁ j ≡ word_in work j
  unfolding word_in
  worked_word j h =
      rw (
        same_number j 0 h (omega arith),
        same_number j 1 h (omega arith),
        same_number j 2 h (omega arith),
        same_number j 3 h (omega arith),
        same_number j 4 h (omega arith),
        same_number j 5 h (omega arith),
        same_number j 6 h (omega arith),
      )

  pub worked_words : (notes : List ℕ) → words_in notes n work₁ ≡ words_in notes n work
  worked_words notes = words_same notes n work work₁ worked_word

  pub worked_beyond : (k : ℕ) → n * 15 ≤ k → get_or work₁ k 0 ≡ get_or work k 0
  worked_beyond k h =
      let e : n * 15 + (k - n * 15) ≡ k = omega arith in
      ap (λ (i : ℕ). get_or work₁ i 0) (sym e) ∙ sym (get_or-drop (n * 15) work₁ (k - n * 15) 0) ∙ ap (λ (xs : List ℕ). get_or xs (k - n * 15) 0) worked.beyond ∙ get_or-drop (n * 15) work (k - n * 15) 0 ∙ ap (λ (i : ℕ). get_or work i 0) e

-- marks change no break record
pub part_marked : (n : ℕ) (old new : List ℕ) {says : ℕ → Bool} → MarkedUpTo n old new says → records_part n new ≡ records_part n old
part_marked n old new marked =
    let s = marked.sized in
    ap (take (n * 15 - n * 7))
    (ext_get_or 0 (drop (n * 7) new) (drop (n * 7) old) (rw (length-drop, length-drop) (omega arith))
    (λ i h. get_or-drop (n * 7) new i 0 ∙ marked.beyond (n * 7 + i) (omega arith) ∙ sym (get_or-drop (n * 7) old i 0)))

-- ---- a round on the lent part, told of the words as they were when the rounds began

module _ (n : ℕ) (work₀ work work₁ part : List ℕ) (worked : Worked n work₀ work) (next : Worked n work work₁) (home : records_part n work₁ ≡ part)
    (i : ℕ) (here : i < n) (word : WordRecord) (got : word ≡ word_in work i) where
  word_then : word ≡ word_in work₀ i
  word_then = got ∙ worked_word n work₀ work worked i here

  module _ (g : Setting) (last sentence : Bool) (st : Standing) (t : Tables) (a : List ℕ) where
    pub round_home : (r : Standing) → RoundIs g last sentence i word st t a (table_in part) (active_in part) r
        → RoundIs g last sentence i (word_in work₀ i) st t a (table_in (records_part n work₁)) (active_in (records_part n work₁)) r
    round_home r is = rw (home, ← word_then) is

    pub told_home : (r : Told) → ToldIs g last sentence i word st t a (table_in part) (active_in part) r
        → ToldIs g last sentence i (word_in work₀ i) st t a (table_in (records_part n work₁)) (active_in (records_part n work₁)) r
    told_home r is = rw (home, ← word_then) is

  pub behind_home : (notes : List ℕ) (x : Bool) → x ≡ sentence_behind (meaning notes (word_in work₁ i)) (drop (i + 1) (words_in notes n work₁))
      → x ≡ sentence_behind (meaning notes (word_in work₀ i)) (drop (i + 1) (words_in notes n work₀))
  behind_home notes x e =
      let all = worked_then n work₀ work worked work₁ next in
      e ∙ rw (worked_word n work₀ work₁ all i here, worked_words n work₀ work₁ all notes)

-- ---- the paragraph's start, stored in the lent part

module _ (g : Setting) (n : ℕ) (work : List ℕ) (lent : Lent n work) (some : 1 ≤ n) (limits : Limits g) (w : WordRecord) (got : w ≡ word_in work 0) (narrow : w.width < 2 ^ 31)
    (part work₁ : List ℕ) (same : length part ≡ length (records_part n work)) (home : work₁ ≡ take (n * 7) work ++ (part ++ drop (n * 15 - n * 7) (drop (n * 7) work)))
    (r : ℕ) (zero-ratio : ratio_of r ≡ no_ratio)
    (stored : table_in part ≡ with_break (table_in (records_part n work)) 0 (record { previous = 0; word = 0; before = false; demerits = 0; ratio = r; columns = g.first + w.width; fresh = false }))
    (put : active_in part ≡ set (active_in (records_part n work)) 0 0) where
  abbrev one : Standing
  one = record { count = 1; size = 1; reduction = 0 }

  room_some : 0 < length (table_in (records_part n work))
  room_some = rw (part_room n work lent) some

  abbrev home_table : table_in (records_part n work₁) ≡ with_break (table_in (records_part n work)) 0 (record { previous = 0; word = 0; before = false; demerits = 0; ratio = r; columns = g.first + w.width; fresh = false })
  home_table = ap table_in (part_home n work lent part work₁ same home) ∙ stored

  abbrev home_active : active_in (records_part n work₁) ≡ set (active_in (records_part n work)) 0 0
  home_active = ap active_in (part_home n work lent part work₁ same home) ∙ put

  pub begun : Begun g n work (table_in (records_part n work₁)) (active_in (records_part n work₁)) one
  begun = record {
    ready = ready_first g w r zero-ratio limits narrow (table_in (records_part n work)) (active_in (records_part n work)) (table_in (records_part n work₁)) (active_in (records_part n work₁))
        (part_sized n work lent) (active_sized (records_part n work)) room_some home_table home_active;
    is = λ notes.
        begins g w r zero-ratio limits narrow (table_in (records_part n work)) (active_in (records_part n work)) (table_in (records_part n work₁)) (active_in (records_part n work₁))
        (part_sized n work lent) (active_sized (records_part n work)) room_some home_table home_active notes
        ∙ ap (λ (v : WordRecord). begin g (meaning notes v)) got;
  }
