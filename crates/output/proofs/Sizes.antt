-- How many bytes emission has: an indent, a word with what is before it, and the words of a table one by one.
use mathlib.Core.Path.{◌≡◌, sym, ap, ◌∙◌}
use mathlib.Core.Bool.{Bool, true, false, cond}
use mathlib.Core.List.{List, ◌++◌}
use Prim.Native.Nat.{ℕ, ◌+◌, ◌-◌, ◌≤◌, ◌<◌, ◌^◌}
use native.Mathlib.Omega.{arith}
use lib.ListN.{length, length-append, length-replicate}
use lib.Seq.{slice, length-slice}
use Rattle.pieces.specs.declared.Margin.{Margin}
use Rattle.records.specs.declared.Word.{Word as Record}
use Rattle.records.specs.Word.{meaning}
use Rattle.records.specs.Cited.Table.{Within, Got}
use Rattle.records.specs.Cited.Marks.{mark_in}
use Rattle.spacing.specs.Spacing.{added_space}
use Rattle.output.specs.declared.Layout.{Layout}
use Rattle.output.specs.Cited.Sink.{Wrote}
use Rattle.output.specs.Cited.Writers.{margin_of, MarginIn, placed, Laid, emitted, emitted_from}
use Rattle.output.proofs.Sink.{written_past}
use Rattle.output.proofs.Emission.{joined, turn_within, rest_turn, rest_end, emit_first}

length_three : (a b c : List ℕ) → length (a ++ (b ++ c)) ≡ length a + (length b + length c)
length_three a b c = simp length-append

margin_is : (notes : List ℕ) (m : Margin) → MarginIn (length notes) m → length (margin_of notes m) ≡ m.end - m.start + m.more
margin_is notes m h = let s = length-slice m.start m.end notes h.end in simp (length-append, length-replicate) (omega arith)

placed_is : (notes : List ℕ) (w : Record) (fresh : Bool) (added : ℕ) (indent : List ℕ) → Within (length notes) w
    → length (placed fresh added indent (meaning notes w)) ≡ cond fresh (1 + length indent + (w.end - w.start)) (added + (w.end - w.from))
unfolding placed meaning
placed_is notes w true added indent h = let t = length-slice w.start w.end notes h.end in rw length-append (omega arith)
placed_is notes w false added indent h =
    let t = length-slice w.from w.end notes h.end in
    let e : length (placed false added indent (meaning notes w)) ≡ added + length (slice w.from w.end notes) = ap length (joined notes w added indent h) ∙ simp (length-append, length-replicate) in
    omega arith

module _ {notes table : List ℕ} {n : ℕ} {l : Layout} (laid : Laid notes table n l) where
  module _ {i : ℕ} {w : Record} (got : Got table i w) (more : i < n) where
    pub word_small : Within (2 ^ 32) w
    word_small = let h = turn_within laid got more in record { gap = h.gap; text = h.text; end = omega (arith, h.end, laid.small) }

    -- a word more is counted
    pub size_turn : (punct : Bool) (k : ℕ) {r added indent total : ℕ} {fresh : Bool} → added ≡ added_space l.uniform w.first w.sentence punct → fresh ≡ mark_in table i
        → indent ≡ l.indent.end - l.indent.start + l.indent.more
        → r ≡ cond fresh (1 + indent + (w.end - w.start)) (added + (w.end - w.from))
        → k + length (emitted_from notes table n l punct i) ≡ total
        → k + r + length (emitted_from notes table n l w.punct (i + 1)) ≡ total
    size_turn punct k {r} {added} {indent} {total} {fresh} a f m e h =
        let p : r ≡ length (placed fresh added (margin_of notes l.indent) (meaning notes w)) =
        e ∙ rw (m ∙ sym (margin_is notes l.indent laid.indent)) (sym (placed_is notes w fresh added (margin_of notes l.indent) (turn_within laid got more))) in
        let s : length (emitted_from notes table n l punct i) ≡ length (placed fresh added (margin_of notes l.indent) (meaning notes w)) + length (emitted_from notes table n l w.punct (i + 1)) =
        rw (a, f) (ap length (rest_turn laid got more punct) ∙ length-append (placed (mark_in table i) (added_space l.uniform w.first w.sentence punct) (margin_of notes l.indent) (meaning notes w)) (emitted_from notes table n l w.punct (i + 1))) in
        omega (arith, p, s, h)

  -- the first word, bare after the first indent
  pub size_first : {w : Record} (k : ℕ) → Got table 0 w → k ≡ l.first.end - l.first.start + l.first.more → k + (w.end - w.start) + length (emitted_from notes table n l false 1) ≡ length (emitted notes table n l)
  unfolding meaning
  size_first {w} k got e =
      let m = margin_is notes l.first laid.first in
      let t : length (meaning notes w).text ≡ w.end - w.start = length-slice w.start w.end notes (turn_within laid got laid.some).end in
      let s = ap length (emit_first notes table n l w got.is laid.some) ∙ length_three (margin_of notes l.first) (meaning notes w).text (emitted_from notes table n l false 1) in
      omega (arith, m, t, e, s)

  -- the line feed at the end
  pub size_last : (punct : Bool) (i k : ℕ) {total : ℕ} → n ≤ i → k + length (emitted_from notes table n l punct i) ≡ total → k + 1 ≡ total
  size_last punct i k h e = rw (rest_end notes table n l punct i h) at e

-- what is counted where there is no room is written there, as far as it fits
pub counted_wrote : (out d : List ℕ) (at : ℕ) {r : ℕ} → length out ≤ at → r ≡ length d → Wrote out at d out (at + r)
counted_wrote out d at h e = record { count = ap (λ (n : ℕ). at + n) e; bytes = sym (written_past at out d h) }
