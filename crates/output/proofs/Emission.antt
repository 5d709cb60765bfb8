-- The laws of emission: the first word, one word more, the end; and how long it gets.
use mathlib.Core.Path.{◌≡◌, ap, ◌∙◌}
use mathlib.Core.Bool.{Bool, true, false}
use mathlib.Core.List.{List, ◌∷◌, ◌++◌, append_assoc}
use Prim.Native.Nat.{ℕ, ◌+◌, ◌≤◌, ◌<◌, ◌^◌}
use native.Mathlib.Omega.{arith}
use lib.ListN.{length, drop, replicate, length-append, length-replicate}
use lib.Seq.{slice, length-slice}
use Rattle.lists.proofs.Joins.{slice_join}
use Rattle.records.specs.declared.Word.{Word as Record}
use Rattle.records.specs.Word.{Word, meaning}
use Rattle.records.specs.Cited.Table.{word_in, words_in, Within, Got}
use Rattle.records.specs.Cited.Marks.{mark_in}
use Rattle.records.proofs.Table.{words_drop, words_end}
use Rattle.records.proofs.Marks.{marks_from}
use Rattle.spacing.specs.Spacing.{added_space}
use Rattle.output.specs.declared.Layout.{Layout}
use Rattle.output.specs.Emission.{line_feed, space_before, emit_rest, emit}
use Rattle.output.specs.Cited.Sink.{Wrote}
use Rattle.output.specs.Cited.Writers.{margin_of, placed, Laid, emitted, emitted_from}
use Rattle.output.proofs.Sink.{wrote_then}
use Rattle.output.proofs.Writers.{margin_most}

-- ---- one word, and the notes after it

module _ (notes : List ℕ) (w : Record) (added : ℕ) (indent : List ℕ) (within : Within (length notes) w) where
  pub joined : placed false added indent (meaning notes w) ≡ replicate added 32 ++ slice w.from w.end notes
  unfolding placed meaning
  joined = rw (append_assoc, slice_join w.from w.start w.end notes within.gap within.text within.end)

  module _ (end : ℕ) (order : w.end ≤ end) (high : end ≤ length notes) where
    pub word_fresh : {o o' o'' : List ℕ} {k r : ℕ} → Wrote o 0 (line_feed ++ indent) o' k → Wrote o' k (slice w.start end notes) o'' r
        → Wrote o 0 (placed true added indent (meaning notes w) ++ slice w.end end notes) o'' r
    unfolding placed meaning
    word_fresh p q = rw (append_assoc, slice_join w.start w.end end notes within.text order high) (wrote_then p q)

    pub word_joined : {o o' o'' : List ℕ} {k r : ℕ} → Wrote o 0 (replicate added 32) o' k → Wrote o' k (slice w.from end notes) o'' r
        → Wrote o 0 (placed false added indent (meaning notes w) ++ slice w.end end notes) o'' r
    word_joined p q =
        let g = within.gap in
        let t = within.text in
        rw (joined, append_assoc, slice_join w.from w.end end notes (omega arith) order high) (wrote_then p q)

  pub placed_most : (fresh : Bool) → added ≤ 2 → length (placed fresh added indent (meaning notes w)) ≤ length notes + length indent + 2
  unfolding placed meaning
  placed_most true h = let t = length-slice w.start w.end notes within.end in rw length-append (omega arith)
  placed_most false h =
      let t = length-slice w.from w.end notes within.end in
      let e : length (placed false added indent (meaning notes w)) ≡ added + length (slice w.from w.end notes) = ap length joined ∙ simp (length-append, length-replicate) in
      omega arith

-- ---- the words of a table, with their marks

-- one word of the definition
rest_cons : (uniform : Bool) (indent : List ℕ) (punct b : Bool) (bs : List Bool) (w : Word) (ws : List Word)
    → emit_rest uniform indent punct (b ∷ bs) (w ∷ ws)
    ≡ placed b (added_space uniform w.new_line w.sentence_start punct) indent w ++ emit_rest uniform indent w.ends_punct bs ws
unfolding emit_rest placed space_before
rest_cons uniform indent punct b bs w ws = rw append_assoc

-- record i of the table lies in the notes; it adds little enough for every sum; and what the words from it on give
module _ {notes table : List ℕ} {n : ℕ} {l : Layout} {i : ℕ} {w : Record} (laid : Laid notes table n l) (got : Got table i w) (more : i < n) where
  pub turn_within : Within (length notes) w
  turn_within = rw got.is (laid.words i more)

  pub turn_most : (fresh : Bool) (added end : ℕ) {o o' : List ℕ} {r : ℕ} → added ≤ 2 → end ≤ length notes
      → Wrote o 0 (placed fresh added (margin_of notes l.indent) (meaning notes w) ++ slice w.end end notes) o' r → r ≤ 2 ^ 34
  turn_most fresh added end h k q =
      let m = margin_most notes l.indent laid.indent in
      let b = placed_most notes w added (margin_of notes l.indent) turn_within fresh h in
      let t = length-slice w.end end notes k in
      let a = length-append (placed fresh added (margin_of notes l.indent) (meaning notes w)) (slice w.end end notes) in
      let s = laid.small in
      let e = q.count in
      omega arith

  pub rest_turn : (punct : Bool) → emitted_from notes table n l punct i
      ≡ placed (mark_in table i) (added_space l.uniform w.first w.sentence punct) (margin_of notes l.indent) (meaning notes w)
      ++ emitted_from notes table n l w.punct (i + 1)
  unfolding meaning
  rest_turn punct =
      rw (marks_from table n i more, words_drop notes n table i more, ← got.is)
      (rest_cons l.uniform (margin_of notes l.indent) punct _ _ (meaning notes w) _)

module _ (notes table : List ℕ) (n : ℕ) (l : Layout) where
  pub rest_end : (punct : Bool) (i : ℕ) → n ≤ i → emitted_from notes table n l punct i ≡ line_feed
  unfolding emit_rest
  rest_end punct i h = rw (words_end notes n table i h)

  -- the first word, and the rest
  pub emit_first : (w : Record) → w ≡ word_in table 0 → 0 < n
      → emitted notes table n l ≡ margin_of notes l.first ++ ((meaning notes w).text ++ emitted_from notes table n l false 1)
  unfolding emit
  emit_first w e h =
      let view : words_in notes n table ≡ meaning notes (word_in table 0) ∷ drop 1 (words_in notes n table) = words_drop notes n table 0 h in
      rw (e, view)
