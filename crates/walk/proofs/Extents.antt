-- The pieces' extents, joined, are the notes; no piece's output is empty; and a damaged line is a piece of its own between the pieces of the lines before and after it.
use Rattle.std.proofs.Common.{Some}
use mathlib.Core.Path.{◌≡◌, sym, ap, ◌∙◌}
use mathlib.Core.Bool.{Bool, true, false}
use mathlib.Core.List.{List, [], ◌∷◌, ◌++◌, append_assoc}
use Prim.Native.Nat.{ℕ, ◌<◌}
use native.Mathlib.Omega.{arith}
use lib.ListN.{length, length-append}
use Rattle.lists.specs.Walk.{walk}
use Rattle.lists.specs.Runs.{joined}
use Rattle.lists.specs.Theorems.All.{All}
use Rattle.lists.proofs.Parts.{joined_joined, joined_append, joined_cons}
use Rattle.text.specs.Characters.{damage}
use Rattle.text.proofs.Blanks.{damage_glyphs}
use Rattle.options.specs.Opts.{Opts}
use Rattle.lines.specs.Lines.{Line, lines_of}
use Rattle.lines.proofs.Extents.{lines_extents}
use Rattle.lines.proofs.Ink.{damaged_plain}
use Rattle.pieces.specs.Pieces.{Piece, Kind, blank_line, plain_line, paragraph, next_piece, pieces}
use Rattle.pieces.proofs.Boundary.{plain_stands}
use Rattle.pieces.proofs.Extents.{lines_in, pieces_lines, pieces_some}
use Rattle.records.specs.Word.{Word}
use Rattle.words.specs.Words.{words_of}
use Rattle.output.specs.Emission.{line_feed, emit_rest, emit}
use Rattle.walk.specs.Digest.{formatted, output_of, piece_output, digest, extent_of}

pub extents_are_notes : (o : Opts) (notes : List ℕ) → joined extent_of (pieces o notes) ≡ notes
unfolding extent_of
extents_are_notes o notes = sym (joined_joined (λ (l : Line). l.raw) lines_in (pieces o notes)) ∙ ap (joined (λ (l : Line). l.raw)) (pieces_lines o notes) ∙ lines_extents notes

pub extents_some : (o : Opts) (notes : List ℕ) → All (λ (q : Piece). 0 < length (extent_of q)) (pieces o notes)
unfolding extent_of
extents_some o notes = pieces_some o notes

-- what is joined, at one of the elements
pub joined_at : {A B : Type 0} (f : A → List B) (before : List A) (x : A) (after : List A) (xs : List A) → xs ≡ before ++ x ∷ after → joined f xs ≡ joined f before ++ (f x ++ joined f after)
joined_at f before x after xs e = ap (joined f) e ∙ joined_append f before (x ∷ after) ∙ ap (λ (l : List _). joined f before ++ l) (joined_cons f x after)

-- no piece's output is empty: it has a line feed at its end
rest_some : (uniform : Bool) (indent : List ℕ) (punct : Bool) (breaks : List Bool) (ws : List Word) → 0 < length (emit_rest uniform indent punct breaks ws)
unfolding emit_rest
rest_some uniform indent punct breaks [] = omega arith
rest_some uniform indent punct [] (w ∷ ws) = let r = rest_some uniform indent w.ends_punct [] ws in rw (length-append, length-append) (omega arith)
rest_some uniform indent punct (b ∷ breaks) (w ∷ ws) = let r = rest_some uniform indent w.ends_punct breaks ws in rw (length-append, length-append) (omega arith)

emit_some : (uniform : Bool) (first indent : List ℕ) (breaks : List Bool) (ws : List Word) → 0 < length (emit uniform first indent breaks ws)
unfolding emit
emit_some uniform first indent breaks [] = omega arith
emit_some uniform first indent breaks (w ∷ ws) = let r = rest_some uniform indent false breaks ws in rw (length-append, length-append) (omega arith)

pub output_some : (o : Opts) (q : Piece) → 0 < length (piece_output o q)
unfolding output_of formatted
output_some o q = go q.kind
  where
    go : (k : Kind) → 0 < length (output_of o k)
    go blank_line = omega arith
    go (plain_line line) = rw length-append (omega arith)
    go (paragraph p) = emit_some _ p.first.bytes p.indent.bytes _ (words_of o p)

-- a damaged line: the pieces of the lines before it, itself as a plain line, and the pieces of the lines after it
pub damaged_pieces : (o : Opts) (notes : List ℕ) (before : List Line) (l : Line) (after : List Line) (place : ℕ)
    → lines_of notes ≡ before ++ l ∷ after → damage l.text ≡ Some place
    → pieces o notes ≡ walk (next_piece o) true before ++ record { kind = plain_line l.text; lines = l ∷ [] } ∷ walk (next_piece o) false after
damaged_pieces o notes before l after place h d = plain_stands o notes before l after (damaged_plain o l.text (damage_glyphs o.glue l.text place d)) h

-- the digest where a plain line is one of the pieces
pub plain_digest : (o : Opts) (notes : List ℕ) (above : List Piece) (l : Line) (below : List Piece) → pieces o notes ≡ above ++ record { kind = plain_line l.text; lines = l ∷ [] } ∷ below
    → digest o notes ≡ joined (piece_output o) above ++ (l.text ++ 10 ∷ joined (piece_output o) below)
unfolding digest output_of
plain_digest o notes above l below e =
    rw (e, joined_append, joined_cons (piece_output o) (record { kind = plain_line l.text; lines = l ∷ [] }))
    (ap (λ (t : List ℕ). joined (piece_output o) above ++ t) (append_assoc l.text line_feed (joined (piece_output o) below)))
