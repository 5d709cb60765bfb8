-- What the writers of a paragraph have written, put together.
use mathlib.Core.Path.{◌≡◌, refl, sym, ap, ◌∙◌}
use mathlib.Core.Bool.{Bool, true, false, cond, not, ◌&&◌}
use mathlib.Core.List.{List, ◌∷◌, ◌++◌, append-nil}
use Prim.Native.Nat.{ℕ, ◌+◌, ◌^◌, ◌≤◌, ◌<◌}
use native.Mathlib.Omega.{arith}
use mir.Val.{bool_byte}
use lib.Dec.{ltb}
use lib.ListN.{length, drop, replicate, length-append}
use lib.Seq.{slice, slice_empty}
use borrow.Author.Tests.{ltb-true, ltb-false, not-true, not-false}
use Rattle.pieces.specs.declared.Margin.{Margin}
use Rattle.records.specs.declared.Word.{Word as Record}
use Rattle.records.specs.Word.{meaning}
use Rattle.records.specs.Cited.Table.{words_in, Within, Got}
use Rattle.records.specs.Cited.Marks.{mark_in}
use Rattle.records.proofs.Table.{words_drop, words_end}
use Rattle.records.proofs.Marks.{marks_from}
use Rattle.spacing.specs.Spacing.{added_space}
use Rattle.output.specs.declared.Layout.{Layout}
use Rattle.output.specs.Cited.Sink.{Wrote, Left}
use Rattle.output.specs.Cited.Writers.{margin_of, MarginIn, placed, Laid}
use Rattle.output.proofs.Writers.{margin_most}
use Rattle.output.proofs.Emission.{placed_most}
use Rattle.output.proofs.Sink.{wrote_then, left_then}
use Rattle.unflow.specs.Cited.Steps.{end_of}
use Rattle.flow.specs.Flow.{is_dashed}
use Rattle.flow.specs.Cited.Words.{line_end, some, opened, next_sent, next_dashed, rest_sent, rest_dashes, words_sent, words_dashes}
use Rattle.flow.specs.Cited.Sending.{Opens, Turned, sent_from, dashes_from, RestSent, ParagraphSent}
use Rattle.flow.specs.declared.Opening.{Opening}
use Rattle.flow.specs.declared.Turn.{Turn}
use Rattle.flow.proofs.Words.{one_most}

-- ---- the end of a line

-- a truth value as a number
pub as_number : (b : Bool) {n : ℕ} → n ≡ bool_byte b → n ≡ cond b 1 0
as_number true e = e
as_number false e = e

pub at_most_one : (b : Bool) {n : ℕ} → n ≡ bool_byte b → n ≤ 1
at_most_one true e = omega (arith, e)
at_most_one false e = omega (arith, e)

pub line_ended : (dashed : Bool) {k : ℕ} {o o' : List ℕ} {at r : ℕ} → k ≡ cond (not dashed) 1 0 → Wrote o at (replicate k 32 ++ end_of true) o' r → Wrote o at (line_end dashed) o' r
unfolding line_end end_of
line_ended true e w = rw e at w
line_ended false e w = rw e at w

pub end_count : {o o' : List ℕ} {r : ℕ} → Wrote o 0 (end_of true) o' r → r ≡ 2
unfolding end_of
end_count w = omega (arith, w.count)

-- ---- a word

pub word_most : (notes : List ℕ) (w : Record) (indent : Margin) {added : ℕ} {o o' : List ℕ} {r : ℕ} → Within (length notes) w → MarginIn (length notes) indent → length notes < 2 ^ 32 → added ≤ 2
    → Wrote o 0 (placed false added (margin_of notes indent) (meaning notes w) ++ slice w.end w.end notes) o' r → r ≤ 2 ^ 34
word_most notes w indent {added} within m s h q =
    let b = placed_most notes w added (margin_of notes indent) within false h in
    let g = margin_most notes indent m in
    let a = length-append (placed false added (margin_of notes indent) (meaning notes w)) (slice w.end w.end notes) in
    let z = ap length (slice_empty w.end notes) in
    omega (arith, q.count, b, g, a, z, s)

module _ (notes : List ℕ) (w : Record) (added : ℕ) (indent : Margin) (more : Bool) (t : Turn) where
  -- that goes on the line
  pub turned_on : {fresh : Bool} {out out' : List ℕ} {r : ℕ} → not fresh ≡ true
      → Wrote out t.at (placed false added (margin_of notes indent) (meaning notes w) ++ slice w.end w.end notes) out' r → r ≤ t.at + 2 ^ 34
      → Turned notes w fresh added indent more t out out' (record { at = r; dashed = false; dashes = t.dashes })
  unfolding next_sent next_dashed
  turned_on {fresh} {out} {out'} {r} f a b =
      let e : placed false added (margin_of notes indent) (meaning notes w) ++ slice w.end w.end notes ≡ placed false added (margin_of notes indent) (meaning notes w) =
      ap (λ (x : List ℕ). placed false added (margin_of notes indent) (meaning notes w) ++ x) (slice_empty w.end notes) ∙ append-nil (placed false added (margin_of notes indent) (meaning notes w)) in
      rw (not-true fresh f) (record { wrote = rw e at a; dashed = refl; dashes = omega arith; few = b })

  -- that begins one
  pub turned_off : {fresh : Bool} {out out' : List ℕ} {r k : ℕ} (o : Opening) → not fresh ≡ false → Opens more (margin_of notes indent ++ slice w.start w.end notes) o → k ≡ cond t.dashed 1 0
      → Wrote out t.at (line_end t.dashed ++ (replicate o.spaces 32 ++ (margin_of notes indent ++ slice w.start w.end notes))) out' r → r ≤ t.at + 2 ^ 34
      → Turned notes w fresh added indent more t out out' (record { at = r; dashed = o.dashed; dashes = t.dashes + k })
  unfolding next_sent next_dashed opened meaning
  turned_off {fresh} {out} {out'} {r} {k} o f j e a b =
      rw (not-false fresh f) (record { wrote = rw j.spaces at a; dashed = j.dashed; dashes = rw e; few = b })

pub one_more : {notes : List ℕ} {w : Record} {fresh : Bool} {added : ℕ} {indent : Margin} {more : Bool} {t : Turn} {out out' : List ℕ} {r : Turn} → Turned notes w fresh added indent more t out out' r → r.dashes ≤ t.dashes + 1
one_more {fresh} {t} q = omega (arith, q.dashes, one_most (fresh && t.dashed))

-- ---- the words of a table, with their marks

more_words : (notes table : List ℕ) (n i : ℕ) → some (drop i (words_in notes n table)) ≡ ltb i n
more_words notes table n i = go (ltb i n) refl
  where
    go : (t : Bool) → ltb i n ≡ t → some (drop i (words_in notes n table)) ≡ t
    go true e = ap some (words_drop notes n table i (ltb-true i n e))
    go false e = ap some (words_end notes n table i (ltb-false i n e))

module _ {notes table : List ℕ} {n : ℕ} {l : Layout} {i : ℕ} {w : Record} (laid : Laid notes table n l) (got : Got table i w) (more : i < n) where
  sent_turn : (dashed punct : Bool) → sent_from notes table n l.indent dashed punct i
      ≡ next_sent (mark_in table i) (added_space true w.first w.sentence punct) dashed (margin_of notes l.indent) (ltb (i + 1) n) (meaning notes w)
      ++ sent_from notes table n l.indent (next_dashed (mark_in table i) (margin_of notes l.indent) (meaning notes w)) w.punct (i + 1)
  unfolding rest_sent meaning
  sent_turn dashed punct = rw (marks_from table n i more, words_drop notes n table i more, ← got.is, ← more_words notes table n (i + 1))

  dashes_turn : (dashed : Bool) → dashes_from notes table n l.indent dashed i
      ≡ cond (mark_in table i && dashed) 1 0 + dashes_from notes table n l.indent (next_dashed (mark_in table i) (margin_of notes l.indent) (meaning notes w)) (i + 1)
  unfolding rest_dashes
  dashes_turn dashed = rw (marks_from table n i more, words_drop notes n table i more, ← got.is)

  pub turn_left : (punct : Bool) (added : ℕ) (t r : Turn) {o₀ o o' : List ℕ} {n₀ : ℕ} {d₀ : List ℕ} → added ≡ added_space true w.first w.sentence punct
      → Left o₀ n₀ d₀ o t.at (sent_from notes table n l.indent t.dashed punct i)
      → Turned notes w (mark_in table i) added l.indent (ltb (i + 1) n) t o o' r
      → Left o₀ n₀ d₀ o' r.at (sent_from notes table n l.indent r.dashed w.punct (i + 1))
  turn_left punct added t r a p q = rw q.dashed (left_then (rw (sent_turn t.dashed punct) at p) (rw a at q.wrote))

  pub turn_dashes : (added : ℕ) (t r : Turn) {o o' : List ℕ} (d : ℕ) → t.dashes + dashes_from notes table n l.indent t.dashed i ≡ d
      → Turned notes w (mark_in table i) added l.indent (ltb (i + 1) n) t o o' r
      → r.dashes + dashes_from notes table n l.indent r.dashed (i + 1) ≡ d
  turn_dashes added t r d p q = rw q.dashed (omega (arith, p, q.dashes, dashes_turn t.dashed))

module _ (notes table : List ℕ) (n : ℕ) (indent : Margin) where
  pub sent_end : (dashed punct : Bool) (i : ℕ) → n ≤ i → sent_from notes table n indent dashed punct i ≡ end_of true
  unfolding rest_sent end_of
  sent_end dashed punct i h = rw (words_end notes n table i h)

  pub dashes_end : (dashed : Bool) (i : ℕ) → n ≤ i → dashes_from notes table n indent dashed i ≡ 0
  unfolding rest_dashes
  dashes_end dashed i h = rw (words_end notes n table i h)

-- ---- all of them

pub paragraph_sent : (notes table : List ℕ) (n : ℕ) (l : Layout) (w : Record) (o : Opening) (at : ℕ) (t r : Turn) {out out₁ out₂ : List ℕ} → Laid notes table n l → Got table 0 w
    → Opens (ltb 1 n) (margin_of notes l.first ++ slice w.start w.end notes) o
    → Wrote out at (replicate o.spaces 32 ++ (margin_of notes l.first ++ slice w.start w.end notes)) out₁ t.at → t.dashed ≡ o.dashed
    → RestSent notes table n l.indent out₁ t out₂ r → ParagraphSent notes table n l out at out₂ r
unfolding words_sent words_dashes opened meaning
paragraph_sent notes table n l w o at t r laid got j a d s =
    let view : words_in notes n table ≡ meaning notes w ∷ drop 1 (words_in notes n table) = words_drop notes n table 0 laid.some ∙ ap (λ (x : Record). meaning notes x ∷ drop 1 (words_in notes n table)) (sym got.is) in
    let e : t.dashed ≡ is_dashed (margin_of notes l.first ++ slice w.start w.end notes) = d ∙ j.dashed in
    record {
      wrote = rw (view, more_words notes table n 1, ← e, ← j.spaces) (wrote_then a s.wrote);
      dashes = rw (view, ← e) s.dashes;
      few = s.few;
    }
