-- A line that is not formatted is a boundary of pieces: the pieces of the lines before it, and then its own and those after it.
use mathlib.Core.Path.{◌≡◌, refl, ◌∙◌}
use mathlib.Core.Bool.{Bool, true, false}
use mathlib.Core.List.{List, [], ◌∷◌, ◌++◌}
use Prim.Native.Nat.{ℕ, suc, ◌<◌}
use native.Mathlib.Omega.{arith}
use lib.ListN.{length}
use lib.Seq.{take-append-le}
use Rattle.lists.specs.Walk.{walk}
use Rattle.lists.proofs.Walk.{last, walk_step, walk_append}
use Rattle.options.specs.Opts.{Opts}
use Rattle.lines.specs.Lines.{Line, lines_of}
use Rattle.lines.specs.Classes.{classify}
use Rattle.lines.specs.declared.Shape.{Shape}
use Rattle.lines.specs.declared.Class.{Class}
use Rattle.lines.specs.declared.Class.TheVariants.{Blank, Plain, Formatted}
use Rattle.pieces.specs.Pieces.{Piece, blank_line, plain_line, starts_mail, further, paragraph_at, piece_as, next_piece, pieces}
use Rattle.pieces.proofs.Reach.{Stops, blank_stops, plain_stops, further_le, further_append, indent_append}

abbrev pub blank_piece : Line → Piece
blank_piece l = record { kind = blank_line; lines = l ∷ [] }

abbrev pub plain_piece : Line → Piece
plain_piece l = record { kind = plain_line l.text; lines = l ∷ [] }

module _ (o : Opts) where
  -- ---- with a line after the lines that stops a paragraph, the next piece is the same

  module _ (l : Line) (after : List Line) (stops : Stops o l) where
    paragraph_append : (nextMail : Bool) (s : Shape) (k : Line) (ls : List Line) → paragraph_at o nextMail s k (ls ++ l ∷ after) ≡ paragraph_at o nextMail s k ls
    unfolding paragraph_at
    paragraph_append nextMail s k ls =
        let mail = starts_mail o.mail nextMail s k.text in
        rw (further_append o l after stops mail s ls, indent_append o l after stops mail k.text s ls, take-append-le (further o mail s ls) ls (l ∷ after) (further_le o mail s ls))

    next_append : (nextMail : Bool) (ls : List Line) → 0 < length ls → next_piece o nextMail (ls ++ l ∷ after) ≡ next_piece o nextMail ls
    unfolding next_piece
    next_append nextMail [] h = absurd (omega arith)
    next_append nextMail (k ∷ ls) h = go (classify o k.text)
      where
        go : (c : Class) → piece_as o nextMail k (ls ++ l ∷ after) c ≡ piece_as o nextMail k ls c
        go Blank = refl
        go Plain = refl
        go (Formatted s) = paragraph_append nextMail s k ls

  next_within : (nextMail : Bool) (ls : List Line) → 0 < length ls → (next_piece o nextMail ls).besides < length ls
  unfolding next_piece paragraph_at
  next_within nextMail [] h = absurd (omega arith)
  next_within nextMail (k ∷ ls) h = go (classify o k.text)
    where
      go : (c : Class) → (piece_as o nextMail k ls c).besides < suc (length ls)
      go Blank = omega arith
      go Plain = omega arith
      go (Formatted s) = let h = further_le o (starts_mail o.mail nextMail s k.text) s ls in omega arith

  pieces_stop : (l : Line) (after : List Line) → Stops o l → (nextMail : Bool) (before : List Line)
      → walk (next_piece o) nextMail (before ++ l ∷ after) ≡ walk (next_piece o) nextMail before ++ walk (next_piece o) (last (next_piece o) nextMail before) (l ∷ after)
  pieces_stop l after stops nextMail before =
      walk_append (next_piece o) (λ ls. Unit {0}) (l ∷ after) (λ m ls u h. (next_append l after stops m ls h, next_within m ls h, tt)) nextMail before tt

  -- ---- a blank line and a plain line are pieces of their own; after a blank line next-mail is as at the start

  module _ (nextMail : Bool) (l : Line) (after : List Line) where
    blank_step : classify o l.text ≡ Blank → walk (next_piece o) nextMail (l ∷ after) ≡ blank_piece l ∷ walk (next_piece o) true after
    unfolding next_piece
    blank_step e = walk_step (next_piece o) nextMail (l ∷ after) (omega arith) ∙ rw e

    plain_step : classify o l.text ≡ Plain → walk (next_piece o) nextMail (l ∷ after) ≡ plain_piece l ∷ walk (next_piece o) false after
    unfolding next_piece
    plain_step e = walk_step (next_piece o) nextMail (l ∷ after) (omega arith) ∙ rw e

  -- a blank line parts the notes: the pieces of the lines before it, itself, and the pieces of the lines after it, as from the start
  pub blank_stands : (notes : List ℕ) (before : List Line) (l : Line) (after : List Line) → classify o l.text ≡ Blank → lines_of notes ≡ before ++ l ∷ after
      → pieces o notes ≡ walk (next_piece o) true before ++ blank_piece l ∷ walk (next_piece o) true after
  unfolding pieces
  blank_stands notes before l after e h =
      rw (h, pieces_stop l after (blank_stops o l e) true before, blank_step (last (next_piece o) true before) l after e)

  -- a plain line stands: the pieces of the lines before it, itself, and the pieces of the lines after it
  pub plain_stands : (notes : List ℕ) (before : List Line) (l : Line) (after : List Line) → classify o l.text ≡ Plain → lines_of notes ≡ before ++ l ∷ after
      → pieces o notes ≡ walk (next_piece o) true before ++ plain_piece l ∷ walk (next_piece o) false after
  unfolding pieces
  plain_stands notes before l after e h =
      rw (h, pieces_stop l after (plain_stops o l e) true before, plain_step (last (next_piece o) true before) l after e)
