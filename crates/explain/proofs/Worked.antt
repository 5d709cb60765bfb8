-- Reasons that a line does not have: what `EndsSo` and `EndsIn` refuse; and what a paragraph of one word and a digest of one piece come to.
use mathlib.Core.Path.{◌≡◌, sym, ap, subst⁻¹, ◌∙◌}
use mathlib.Core.Bool.{◌||◌}
use mathlib.Core.List.{List, [], ◌∷◌, ◌++◌}
use Prim.Native.Nat.{ℕ, suc}
use native.Mathlib.Omega.{arith}
use lib.ListN.{length, length-append}
use Rattle.lists.specs.Runs.{joined}
use Rattle.options.specs.Opts.{Opts}
use Rattle.pieces.specs.Pieces.{Paragraph, Piece, blank_line, plain_line}
use Rattle.records.specs.Word.{Word}
use Rattle.words.specs.Words.{words_of}
use Rattle.output.specs.Emission.{line_feed, emit_rest, emit}
use Rattle.endings.specs.declared.Ending.{Ending}
use Rattle.endings.specs.declared.Ending.TheVariants.{Paragraph as OfParagraph, Plain, Blank, Before, After}
use Rattle.endings.specs.Endings.{Next, goes_on, ended, breaks}
use Rattle.paragraphs.specs.Breaks.{setting_of}
use Rattle.walk.specs.Digest.{piece_output}
use Rattle.explain.specs.Reasons.{lines_by}
use Rattle.explain.specs.Theorems.Ends.{EndsSo, UpToWord, EndsIn, EndsThere}

-- before a word that goes on the line no line ends; a line has the reason that the breaker gave it; with no word left, that of its paragraph
goes_on_apart : (ns : List Next) → EndsSo (goes_on ∷ ns) Before → ⊥
goes_on_apart ns e = e

another_reason : (ns : List Next) → EndsSo (ended Before ∷ ns) After → ⊥
another_reason ns e = let z : ◌≡◌ {A = ℕ} 0 1 = cc in omega arith

no_word_left : EndsSo [] Before → ⊥
no_word_left e = let z : ◌≡◌ {A = ℕ} 0 1 = cc in omega arith

-- a blank line ends as such, and so does a plain line, which keeps its text
blank_as_plain : (o : Opts) → EndsIn o blank_line Plain line_feed → ⊥
blank_as_plain o e = let p = e.0 in let z : ◌≡◌ {A = ℕ} 0 1 = cc in omega arith

plain_as_blank : (o : Opts) → EndsIn o (plain_line (97 ∷ [])) Blank (97 ∷ 10 ∷ []) → ⊥
plain_as_blank o e = let p = e.0 in let z : ◌≡◌ {A = ℕ} 0 1 = cc in omega arith

plain_cut_short : (o : Opts) → EndsIn o (plain_line (97 ∷ [])) Plain line_feed → ⊥
plain_cut_short o e = let n = ap length e.1 in omega arith

blank_with_more : (o : Opts) → EndsIn o blank_line Blank (97 ∷ 10 ∷ []) → ⊥
blank_with_more o e = let n = ap length e.1 in omega arith

-- a paragraph of one word has one line: that word after the first indent; and it ends with the paragraph
one_word : (o : Opts) (p : Paragraph) (e : Ending) (part : List ℕ) (w : Word)
    → words_of o p ≡ w ∷ []
    → lines_by (o.quick || p.mail) (setting_of o p.mail p.first.columns p.indent.columns) (words_of o p) ≡ []
    → UpToWord o p e part
    → (e ≡ OfParagraph) × (part ≡ p.first.bytes ++ (w.text ++ line_feed))
unfolding emit emit_rest breaks
one_word o p e part w is none u = go u.here u.later u.broken u.rest (sym is ∙ u.words) (sym none ∙ u.lines) u.one_less u.bytes u.ends
  where
    go : (here later : List Word) (broken rest : List Next) → w ∷ [] ≡ here ++ later → [] ≡ broken ++ rest → length here ≡ suc (length broken)
        → part ≡ emit (o.uniform || p.mail) p.first.bytes p.indent.bytes (breaks broken) here → EndsSo rest e → (e ≡ OfParagraph) × (part ≡ p.first.bytes ++ (w.text ++ line_feed))
    go here later (b ∷ broken) rest a n h k d = absurd (let z = ap length n in omega arith)
    go here later [] (r ∷ rest) a n h k d = absurd (let z = ap length n in omega arith)
    go [] later [] [] a n h k d = absurd (omega arith)
    go (x ∷ y ∷ here) later [] [] a n h k d = absurd (omega arith)
    go (x ∷ []) later [] [] a n h k d = let z : x ≡ w = cc in (d, k ∙ ap (λ (v : Word). p.first.bytes ++ (v.text ++ line_feed)) z)

-- a digest of one piece ends where that piece's output does
one_piece : (o : Opts) (q : Piece) (e : Ending) (front : List ℕ) → EndsThere o (q ∷ []) e front → EndsIn o q.kind e front
unfolding joined
one_piece o q e front t = go t.before t.piece t.after t.are t.bytes t.ends
  where
    go : (before : List Piece) (piece : Piece) (after : List Piece) → q ∷ [] ≡ before ++ piece ∷ after → front ≡ joined (piece_output o) before ++ t.part → EndsIn o piece.kind e t.part → EndsIn o q.kind e front
    go [] piece after a b k = let z : q ≡ piece = cc in subst⁻¹ (λ (x : Piece). EndsIn o x.kind e front) z (subst⁻¹ (λ (x : List ℕ). EndsIn o piece.kind e x) b k)
    go (x ∷ before) piece after a b k = absurd (let n = ap length a in let l = length-append before (piece ∷ after) in omega arith)

no_piece : (o : Opts) (e : Ending) (front : List ℕ) → EndsThere o [] e front → ⊥
no_piece o e front t = let n = ap length t.are in let l = length-append t.before (t.piece ∷ t.after) in omega arith
