-- The pieces' lines, joined, are the lines of the notes, and each piece has a byte; a paragraph's rows are its lines, the first formatted.
use mathlib.Core.Path.{◌≡◌, refl}
use mathlib.Core.Bool.{Bool, true}
use mathlib.Core.List.{List, [], ◌∷◌, map}
use Prim.Native.Nat.{ℕ, suc, ◌<◌}
use native.Mathlib.Omega.{arith}
use lib.ListN.{length, take, length-append}
use Rattle.lists.specs.Walk.{walk}
use Rattle.lists.specs.Runs.{every, joined}
use Rattle.lists.specs.Theorems.All.{All}
use Rattle.lists.proofs.Parts.{joined_cons}
use Rattle.lists.proofs.All.{all_drop, all_take}
use Rattle.lists.proofs.Extents.{walk_joined, walk_all}
use Rattle.options.specs.Opts.{Opts}
use Rattle.lines.specs.Lines.{Line, no_feed, lines_of}
use Rattle.lines.specs.Classes.{classify}
use Rattle.lines.specs.declared.Shape.{Shape}
use Rattle.lines.specs.declared.Class.{Class}
use Rattle.lines.specs.declared.Class.TheVariants.{Blank, Plain, Formatted}
use Rattle.lines.proofs.Extents.{lines_some, lines_feedless}
use Rattle.pieces.specs.Pieces.{Paragraph, Kind, Piece, blank_line, plain_line, paragraph, row_of, starts_mail, further, paragraph_at, piece_as, next_piece, pieces}

abbrev pub lines_in : Piece → List Line
lines_in q = q.lines

pub next_lines : (o : Opts) (nextMail : Bool) (ls : List Line) → 0 < length ls → (next_piece o nextMail ls).item.lines ≡ take (suc (next_piece o nextMail ls).besides) ls
unfolding next_piece paragraph_at
next_lines o nextMail [] h = absurd (omega arith)
next_lines o nextMail (l ∷ ls) h = go (classify o l.text)
  where
    go : (c : Class) → (piece_as o nextMail l ls c).item.lines ≡ l ∷ take (piece_as o nextMail l ls c).besides ls
    go Blank = refl
    go Plain = refl
    go (Formatted s) = refl

pub walk_lines : (o : Opts) (nextMail : Bool) (ls : List Line) → joined lines_in (walk (next_piece o) nextMail ls) ≡ ls
walk_lines o nextMail ls = walk_joined (next_piece o) lines_in (next_lines o) nextMail ls

pub pieces_lines : (o : Opts) (notes : List ℕ) → joined lines_in (pieces o notes) ≡ lines_of notes
unfolding pieces
pieces_lines o notes = walk_lines o true (lines_of notes)

-- each piece takes a byte
next_some : (o : Opts) (nextMail : Bool) (ls : List Line) → 0 < length ls → All (λ (l : Line). 0 < length l.raw) ls → 0 < length (joined (λ (l : Line). l.raw) (next_piece o nextMail ls).item.lines)
next_some o nextMail [] h s = absurd (omega arith)
next_some o nextMail (l ∷ ls) h s =
    let k = s.0 in
    rw (next_lines o nextMail (l ∷ ls) h, joined_cons, length-append) (omega arith)

pub pieces_some : (o : Opts) (notes : List ℕ) → All (λ (q : Piece). 0 < length (joined (λ (l : Line). l.raw) q.lines)) (pieces o notes)
unfolding pieces
pieces_some o notes = walk_all (next_piece o) _ (All (λ (l : Line). 0 < length l.raw)) (all_drop _) (next_some o) true (lines_of notes) (lines_some notes)

-- ---- the lines of a paragraph

abbrev pub Feedless : Line → Type 0
Feedless l = every no_feed l.text ≡ true

-- a paragraph's rows are its lines, the first of them formatted, and none has a line feed in its text
pub record Rows (o : Opts) (lines : List Line) (p : Paragraph) : Type 0 where
  pub rows : p.rows ≡ map (row_of o) lines
  pub feedless : All Feedless lines
  pub head : Line
  pub tail : List Line
  pub begin : lines ≡ head ∷ tail
  pub shape : Shape
  pub formatted : classify o head.text ≡ Formatted shape

abbrev pub OfKind : Opts → List Line → Kind → Type 0
OfKind o lines blank_line = Unit {0}
OfKind o lines (plain_line text) = Unit {0}
OfKind o lines (paragraph p) = Rows o lines p

abbrev pub OfPiece : Opts → Piece → Type 0
OfPiece o q = OfKind o q.lines q.kind

next_rows : (o : Opts) (nextMail : Bool) (ls : List Line) → 0 < length ls → All Feedless ls → OfPiece o (next_piece o nextMail ls).item
unfolding next_piece paragraph_at
next_rows o nextMail [] h f = tt
next_rows o nextMail (l ∷ ls) h f = go (classify o l.text) refl
  where
    go : (c : Class) → classify o l.text ≡ c → OfPiece o (piece_as o nextMail l ls c).item
    go Blank e = tt
    go Plain e = tt
    go (Formatted s) e =
        let n = further o (starts_mail o.mail nextMail s l.text) s ls in
        record { rows = refl; feedless = (f.0, all_take Feedless n ls f.1); head = l; tail = take n ls; begin = refl; shape = s; formatted = e }

pub pieces_rows : (o : Opts) (notes : List ℕ) → All (OfPiece o) (pieces o notes)
unfolding pieces
pieces_rows o notes = walk_all (next_piece o) (OfPiece o) (All Feedless) (all_drop Feedless) (next_rows o) true (lines_of notes) (lines_feedless notes)
