-- Texts and lines that the words of the theorems refuse.
use Rattle.std.proofs.Common.{None}
use mathlib.Core.Path.{◌≡◌, refl, ap, ◌∙◌}
use mathlib.Core.Bool.{Bool, true, false, true≢false, false≢true}
use mathlib.Core.List.{List, [], ◌∷◌, ◌++◌}
use mathlib.Core.Logic.{◌⊎◌, inl, inr}
use Prim.Native.Nat.{ℕ, suc, ◌+◌, ◌<◌}
use native.Mathlib.Omega.{arith}
use lib.ListN.{length, take, length-append}
use Rattle.lists.specs.Runs.{every, joined}
use Rattle.lists.specs.Theorems.All.{All, ◌∈◌}
use Rattle.lists.proofs.All.{all_at}
use Rattle.text.specs.Characters.{Glyph, glyphs, extent}
use Rattle.options.specs.Opts.{Opts}
use Rattle.lines.specs.Lines.{Line, lines_of}
use Rattle.lines.specs.Theorems.Closed.{Closed}
use Rattle.pieces.specs.Pieces.{Paragraph, Piece, paragraph, pieces}
use Rattle.pieces.specs.Theorems.NextMail.{next_mail_behind}
use Rattle.records.specs.Word.{Word}
use Rattle.words.specs.Words.{words_of}
use Rattle.words.specs.Theorems.PlainGap.{plain_gap}
use Rattle.words.specs.Theorems.Standing.{Ascends, Stands}
use Rattle.output.specs.Theorems.Order.{laid_out, InOrder}
use Rattle.walk.specs.Digest.{piece_output}
use Rattle.rudignals.specs.Theorems.LineEnds.{LineEnd, feed, return_and_feed, Ended, by_feed, by_nothing, LineIs}
use Rattle.rudignals.specs.Theorems.Parts.{MayCut}
use Rattle.rudignals.specs.Theorems.Width.{columns_in, OutputLine, ended, words_on, KeepsToWidth, WithinWidth, KeptToWidth}
use Rattle.rudignals.specs.Trials.Computing.{everything}

abbrev word : List ℕ → List ℕ → Word
word blanks text = record { blanks = blanks; text = text; width = length text; before = None; after = 0; new_line = false; ends_punct = false; sentence_start = false }

-- `aaa bb`
abbrev two_words : List Word
two_words = word [] (97 ∷ 97 ∷ 97 ∷ []) ∷ word (32 ∷ []) (98 ∷ 98 ∷ []) ∷ []

abbrev spelled_out : List ℕ
spelled_out = 97 ∷ 97 ∷ 97 ∷ 32 ∷ 98 ∷ 98 ∷ []

-- ---- a line of two words keeps to the width

six_columns : (tab : ℕ) → columns_in tab spelled_out ≡ 6
unfolding everything
six_columns tab = refl

one_column_over : (o : Opts) (p : Paragraph) → o.width ≡ 5 → KeepsToWidth o p (record { bytes = spelled_out; indent = []; words = two_words }) → ⊥
unfolding everything
one_column_over o p w k = let n = k.keeps refl (omega (arith, w, six_columns o.tab)) in omega arith

-- U+3000 before its first word is not on it, and excuses nothing
not_excused : (o : Opts) (p : Paragraph) → o.width ≡ 5
    → KeepsToWidth o p (record { bytes = spelled_out; indent = []; words = word (0xE3 ∷ 0x80 ∷ 0x80 ∷ []) (97 ∷ 97 ∷ 97 ∷ []) ∷ word (32 ∷ []) (98 ∷ 98 ∷ []) ∷ [] }) → ⊥
unfolding everything
not_excused o p w k = let n = k.keeps refl (omega (arith, w, six_columns o.tab)) in omega arith

-- its first bytes are an indent of the paragraph, and no line feed is in it
another_indent : (o : Opts) (p : Paragraph) → p.first.bytes ≡ [] → p.indent.bytes ≡ [] → KeepsToWidth o p (record { bytes = 62 ∷ 97 ∷ []; indent = 62 ∷ []; words = word [] (97 ∷ []) ∷ [] }) → ⊥
another_indent o p f i k = go k.indented
  where
    go : ((62 ∷ []) ≡ p.first.bytes) ⊎ ((62 ∷ []) ≡ p.indent.bytes) → ⊥
    go (inl e) = let n = ap length (e ∙ f) in omega arith
    go (inr e) = let n = ap length (e ∙ i) in omega arith

a_line_feed_inside : (o : Opts) (p : Paragraph) → KeepsToWidth o p (record { bytes = 97 ∷ 10 ∷ 98 ∷ []; indent = []; words = word [] (97 ∷ []) ∷ word [] (98 ∷ []) ∷ [] }) → ⊥
unfolding everything
a_line_feed_inside o p k = false≢true k.one_line

-- its words are in it
another_word : (o : Opts) (p : Paragraph) → KeepsToWidth o p (record { bytes = 97 ∷ []; indent = []; words = word [] (98 ∷ []) ∷ [] }) → ⊥
unfolding laid_out
another_word o p k = go k.in_order.separators k.in_order.one_less k.in_order.laid
  where
    go : (ss : List (List ℕ)) → 1 ≡ suc (length ss) → 97 ∷ 10 ∷ [] ≡ laid_out ([] ∷ ss) (word [] (98 ∷ []) ∷ []) → ⊥
    go [] h e = let z : ◌≡◌ {A = ℕ} 97 98 = cc in omega arith
    go (s ∷ ss) h e = omega arith

-- a line past the width is excused by U+3000 between two of its words, but not by a space or a tab
plain_gaps : (every plain_gap (word (32 ∷ 9 ∷ []) [] ∷ []) ≡ true) × (every plain_gap (word (0xE3 ∷ 0x80 ∷ 0x80 ∷ []) [] ∷ []) ≡ false)
unfolding everything
plain_gaps = (refl, refl)

-- a paragraph's output has its words, and each of its lines keeps to the width
nothing_written : (o : Opts) (p : Paragraph) → 0 < length (words_of o p) → WithinWidth o p [] → ⊥
unfolding joined
nothing_written o p some w = go w.lines w.are w.holds
  where
    go : (ls : List OutputLine) → [] ≡ joined ended ls → joined words_on ls ≡ words_of o p → ⊥
    go [] e h = let n = ap length h in omega arith
    go (l ∷ ls) e h = let n = ap length e in let k = length-append (ended l) (joined ended ls) in let m = length-append l.bytes (10 ∷ []) in omega arith

each_line_keeps : (o : Opts) (p : Paragraph) (output : List ℕ) (w : WithinWidth o p output) (l : OutputLine) → l ∈ w.lines → KeepsToWidth o p l
each_line_keeps o p output w l m = all_at (KeepsToWidth o p) w.each m

-- what was written is the outputs of the pieces, and each of them that is a paragraph and no mail keeps to the width
each_paragraph_keeps : (o : Opts) (notes bytes : List ℕ) → KeptToWidth o notes bytes → (q : Piece) → q ∈ pieces o notes
    → (p : Paragraph) → q.kind ≡ paragraph p → p.mail ≡ false → WithinWidth o p (piece_output o q)
each_paragraph_keeps o notes bytes k q m = all_at (λ (r : Piece). (p : Paragraph) → r.kind ≡ paragraph p → p.mail ≡ false → WithinWidth o p (piece_output o r)) k.each m

written_of_nothing : (o : Opts) → KeptToWidth o [] (97 ∷ []) → ⊥
unfolding everything
written_of_nothing o k = let n = ap length k.are in omega arith

-- ---- words in order, each once

a_word_left_out : InOrder (λ s. 0 < length s) [] two_words (97 ∷ 97 ∷ 97 ∷ 10 ∷ []) → ⊥
unfolding laid_out
a_word_left_out i = go i.separators i.one_less i.laid
  where
    go : (ss : List (List ℕ)) → 2 ≡ suc (length ss) → 97 ∷ 97 ∷ 97 ∷ 10 ∷ [] ≡ laid_out ([] ∷ ss) two_words → ⊥
    go [] h e = omega arith
    go (s ∷ ss) h e = let n = ap length e in let k = length-append s (98 ∷ 98 ∷ 10 ∷ []) in omega arith

no_separator : InOrder (λ s. 0 < length s) [] two_words (97 ∷ 97 ∷ 97 ∷ 98 ∷ 98 ∷ 10 ∷ []) → ⊥
unfolding laid_out
no_separator i = go i.separators i.one_less i.each i.laid
  where
    go : (ss : List (List ℕ)) → 2 ≡ suc (length ss) → All (λ s. 0 < length s) ss → 97 ∷ 97 ∷ 97 ∷ 98 ∷ 98 ∷ 10 ∷ [] ≡ laid_out ([] ∷ ss) two_words → ⊥
    go [] h a e = omega arith
    go (s ∷ ss) h a e = let n = ap length e in let k = length-append s (98 ∷ 98 ∷ 10 ∷ []) in omega (arith, a.0)

-- ---- words with their places

-- one begins before the one before it has ended; the last goes past the end
a_word_too_early : Ascends 0 (record { place = 0; word = word [] (97 ∷ 97 ∷ []) } ∷ record { place = 1; word = word [] (98 ∷ []) } ∷ []) 9 → ⊥
a_word_too_early a = omega (arith, a.1.0)

a_word_past_the_end : Ascends 0 (record { place = 8; word = word [] (97 ∷ 97 ∷ []) } ∷ []) 9 → ⊥
a_word_past_the_end a = omega (arith, a.1)

-- other bytes than the notes have there; no bytes; a blank
other_bytes : (glue : Bool) → Stands glue (97 ∷ []) 0 (98 ∷ []) → ⊥
other_bytes glue s = let e = s.is in let z : ◌≡◌ {A = ℕ} 97 98 = cc in omega arith

no_bytes : (glue : Bool) → Stands glue (97 ∷ []) 0 [] → ⊥
no_bytes glue s = omega (arith, s.some)

a_blank : Stands false (32 ∷ []) 0 (32 ∷ []) → ⊥
unfolding everything
a_blank s = lines s.above s.line s.below s.before s.first s.after s.lines s.characters s.ink
  where
    lines : (above : List Line) (line : Line) (below : List Line) (before : List Glyph) (first : Glyph) (after : List Glyph)
        → lines_of (32 ∷ []) ≡ above ++ line ∷ below → glyphs false line.text ≡ before ++ first ∷ after → first.blank ≡ false → ⊥
    lines [] line below [] first after e c i =
        let l : ◌≡◌ {A = Line} (record { raw = 32 ∷ []; text = 32 ∷ [] }) line = cc in
        let d = ap (λ (k : Line). glyphs false k.text) l ∙ c in
        let b : ◌≡◌ {A = Glyph} (record { bytes = 32 ∷ []; code = 32; damaged = false; blank = true; width = 1 }) first = cc in
        true≢false (ap (λ (g : Glyph). g.blank) b ∙ i)
    lines [] line below (g ∷ before) first after e c i =
        let l : ◌≡◌ {A = Line} (record { raw = 32 ∷ []; text = 32 ∷ [] }) line = cc in
        let n = ap length (ap (λ (k : Line). glyphs false k.text) l ∙ c) in
        let k = length-append before (first ∷ after) in
        omega arith
    lines (a ∷ above) line below before first after e c i = let n = ap length e in let k = length-append above (line ∷ below) in omega arith

-- a blank behind a letter: the character that is no blank is at another place
a_blank_behind : Stands false (97 ∷ 32 ∷ []) 1 (32 ∷ []) → ⊥
unfolding everything
a_blank_behind s = lines s.above s.line s.below s.before s.first s.after s.lines s.characters s.there s.ink
  where
    lines : (above : List Line) (line : Line) (below : List Line) (before : List Glyph) (first : Glyph) (after : List Glyph)
        → lines_of (97 ∷ 32 ∷ []) ≡ above ++ line ∷ below → glyphs false line.text ≡ before ++ first ∷ after
        → 1 ≡ length (joined (λ (l : Line). l.raw) above) + extent before → first.blank ≡ false → ⊥
    lines [] line below [] first after e c t i = omega (arith, t)
    lines [] line below (g ∷ []) first after e c t i =
        let l : ◌≡◌ {A = Line} (record { raw = 97 ∷ 32 ∷ []; text = 97 ∷ 32 ∷ [] }) line = cc in
        let d = ap (λ (k : Line). glyphs false k.text) l ∙ c in
        let b : ◌≡◌ {A = Glyph} (record { bytes = 32 ∷ []; code = 32; damaged = false; blank = true; width = 1 }) first = cc in
        true≢false (ap (λ (k : Glyph). k.blank) b ∙ i)
    lines [] line below (g ∷ h ∷ before) first after e c t i =
        let l : ◌≡◌ {A = Line} (record { raw = 97 ∷ 32 ∷ []; text = 97 ∷ 32 ∷ [] }) line = cc in
        let n = ap length (ap (λ (k : Line). glyphs false k.text) l ∙ c) in
        let k = length-append before (first ∷ after) in
        omega arith
    lines (a ∷ above) line below before first after e c t i = let n = ap length e in let k = length-append above (line ∷ below) in omega arith

-- ---- lines

-- a carriage return before a line feed belongs to the line end; a line has no line feed in its text
a_return_in_the_text : LineEnd (97 ∷ 13 ∷ []) (10 ∷ []) → ⊥
a_return_in_the_text (feed e n) = n refl
a_return_in_the_text (return_and_feed e) = let n = ap length e in omega arith

no_end : LineEnd (97 ∷ []) [] → ⊥
no_end (feed e n) = let k = ap length e in omega arith
no_end (return_and_feed e) = let k = ap length e in omega arith

a_feed_in_the_text : LineIs (97 ∷ 10 ∷ []) (10 ∷ []) [] → ⊥
unfolding everything
a_feed_in_the_text l = false≢true l.feedless

-- the last line alone may have no line feed, and then it has a text
more_below : Ended (97 ∷ []) [] (98 ∷ []) → ⊥
more_below (by_feed e) = no_end e
more_below (by_nothing some none last) = let n = ap length last in omega arith

no_line : Ended [] [] [] → ⊥
no_line (by_feed (feed e n)) = let k = ap length e in omega arith
no_line (by_feed (return_and_feed e)) = let k = ap length e in omega arith
no_line (by_nothing some none last) = omega (arith, some)

unended_above_another : LineIs (97 ∷ []) [] (98 ∷ []) → ⊥
unended_above_another l = more_below l.ended

not_closed : Closed (10 ∷ 97 ∷ []) → ⊥
not_closed c = let z : ◌≡◌ {A = ℕ} 97 10 = c in omega arith

-- ---- parts

-- where next-mail is true the notes may be cut, with mail too
may_cut_there : (o : Opts) (k : ℕ) (notes : List ℕ) → next_mail_behind true (take k (pieces o notes)) ≡ true → MayCut o k notes
may_cut_there o k notes next on = next
