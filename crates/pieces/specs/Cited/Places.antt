-- The next piece as places in the notes: what the code answers. proofs/Meaning.antt shows that it means the next piece of the definition.
use Rattle.std.specs.Prelude.{◌≡◌, Bool, true, false, cond, not, ◌||◌, ◌&&◌, List, [], ◌∷◌, ℕ, ◌+◌, ◌≤◌, ◌<◌, length, take, drop, ltb, None, Option, Some, is_some}
use Rattle.std.proofs.Math.Seq.{slice}
use Rattle.lists.specs.Runs.{joined}
use Rattle.options.specs.Opts.{Opts}
use Rattle.lines.specs.Lines.{Line, first_line, lines_of}
use Rattle.lines.specs.Cited.Places.{most_large, most_columns, Usable, LinesSound}
use Rattle.options.specs.declared.Options.{Options}
use Rattle.lines.specs.Classes.{classify}
use Rattle.lines.specs.declared.Shape.{Shape}
use Rattle.lines.specs.declared.Class.{Class}
use Rattle.lines.specs.declared.Class.TheVariants.{Blank, Plain, Formatted}
use Rattle.pieces.specs.Pieces.{Second, alone, joins, starts_mail, further, second_of, follow, agrees, printable, no_colon}
use Rattle.options.specs.declared.Part.{Part}
use Rattle.pieces.specs.declared.Rule.{Rule}
use Rattle.pieces.specs.declared.Rule.TheVariants.{Mail, Like}
use Rattle.pieces.specs.declared.Second.{Second as SecondAt}
use Rattle.pieces.specs.declared.Classed.{Classed}
use Rattle.pieces.specs.declared.Margin.{Margin}
use Rattle.pieces.specs.declared.Paragraph.{Paragraph}
use Rattle.pieces.specs.declared.Piece.{Piece}
use Rattle.pieces.specs.declared.Piece.TheVariants.{Blank as BlankAt, Plain as PlainAt, Text}

abbrev pub raw_bytes : Line → List ℕ
raw_bytes l = l.raw

-- how many bytes of the notes lines take
unfoldable pub taken : List Line → ℕ
taken ls = length (joined raw_bytes ls)

-- the indent of a line of a shape that begins at a place, with further spaces
abbrev pub margin_at : ℕ → ℕ → Shape → Margin
margin_at at more s = record { start = at; end = at + s.indent_end; more = more; columns = s.indent_length + more }

abbrev pub spaces_at : ℕ → ℕ → Margin
spaces_at at n = record { start = at; end = at; more = n; columns = n }

-- the indent, and where later lines' words begin: set by the second line, which begins at next, if there is one
abbrev pub later_at : Opts → ℕ → ℕ → Shape → Second → Margin
later_at o at next s alone = margin_at at (cond o.tagged 4 0) s
later_at o at next s (joins text t) = margin_at next 0 t

abbrev pub later_start : Shape → Second → ℕ
later_start s alone = s.indent_end
later_start s (joins text t) = t.indent_end

unfoldable pub indent_at : Opts → Bool → ℕ → ℕ → Shape → List Line → Margin
indent_at o mail at next s ls =
    elim mail [
      | true ↦ spaces_at at 2
      | false ↦ elim (o.crown || o.tagged) [ true ↦ later_at o at next s (second_of o s ls) | false ↦ margin_at at 0 s ]
    ]

unfoldable pub start_at : Opts → Bool → Shape → List Line → ℕ
start_at o mail s ls =
    elim mail [
      | true ↦ s.indent_end
      | false ↦ elim (o.crown || o.tagged) [ true ↦ later_start s (second_of o s ls) | false ↦ s.indent_end ]
    ]

-- the paragraph whose first line, of shape s, stands from at up to next, with the lines ls after it
unfoldable pub paragraph_with : Opts → Bool → ℕ → ℕ → Shape → List Line → Paragraph
paragraph_with o mail at next s ls = record {
  next = next + taken (take (further o mail s ls) ls);
  mail = mail;
  first = cond mail (spaces_at at 0) (margin_at at 0 s);
  indent = indent_at o mail at next s ls;
  start = s.indent_end;
  later = start_at o mail s ls;
}

abbrev pub piece_from : Opts → Bool → ℕ → Line → List Line → Class → Piece
piece_from o nextMail at l ls Blank = BlankAt (at + length l.raw)
piece_from o nextMail at l ls Plain = PlainAt (at + length l.text) (at + length l.raw)
piece_from o nextMail at l ls (Formatted s) = Text (paragraph_with o (starts_mail o.mail nextMail s l.text) at (at + length l.raw) s ls)

abbrev pub piece_of : Opts → Bool → ℕ → List Line → Piece
piece_of o nextMail at [] = BlankAt at
piece_of o nextMail at (l ∷ ls) = piece_from o nextMail at l ls (classify o l.text)

-- the next piece of the notes from a line's start on
unfoldable pub piece_at : Opts → Bool → List ℕ → ℕ → Piece
piece_at o nextMail notes at = piece_of o nextMail at (lines_of (drop at notes))

-- ---- the parts that the code's functions answer

-- the place after the lines that follow and pass a test
unfoldable pub reach : Opts → (Shape → Bool) → List ℕ → ℕ → ℕ
reach o test notes i = let ls = lines_of (drop i notes) in i + taken (take (follow o test ls) ls)

-- the second line and the place after it
abbrev pub joining : ℕ → Shape → Option SecondAt
joining next shape = Some (record { next = next; shape = shape })

abbrev pub second_place : ℕ → Second → Option SecondAt
second_place next alone = None
second_place next (joins text t) = joining next t

unfoldable pub second_at : Opts → Shape → List ℕ → ℕ → Option SecondAt
second_at o s notes at = second_place (at + length (first_line (drop at notes)).raw) (second_of o s (lines_of (drop at notes)))

-- what the functions ask: the notes are short, the options are those that a block gives, a place lies in the notes, and the lines from there
-- on are sound if that is said to be known
pub record PieceReady (notes block : List ℕ) (o : Options) (at : ℕ) (known : Bool) : Type 0 where
  pub short : length notes ≤ most_large
  pub usable : Usable block o
  pub place : at ≤ length notes
  pub sound : known ≡ true → LinesSound (lines_of (drop at notes))

-- the line that begins at a place
pub record LineIs (o : Opts) (notes : List ℕ) (at : ℕ) (r : Classed) : Type 0 where
  pub end : r.end ≡ at + length (first_line (drop at notes)).text
  pub next : r.next ≡ at + length (first_line (drop at notes)).raw
  pub class : r.class ≡ classify o (first_line (drop at notes)).text
  pub text : (first_line (drop at notes)).text ≡ slice at r.end notes
  pub first : lines_of (drop at notes) ≡ first_line (drop at notes) ∷ lines_of (drop r.next notes)
  pub on : at < r.next
  pub before : r.end ≤ r.next
  pub within : r.next ≤ length notes

-- a shape of a line that begins at a place
pub record Shaped (notes : List ℕ) (at : ℕ) (s : Shape) : Type 0 where
  pub indent : at + s.indent_end ≤ length notes
  pub columns : s.indent_length ≤ most_columns

-- a second line that joins: the line after it begins at next, and it has the shape s
pub record Joined (notes : List ℕ) (at next : ℕ) (s : Shape) : Type 0 where
  pub within : next ≤ length notes
  pub shaped : Shaped notes at s
  pub first : lines_of (drop at notes) ≡ first_line (drop at notes) ∷ lines_of (drop next notes)
  pub count : next ≡ at + length (first_line (drop at notes)).raw

abbrev pub SecondSound : List ℕ → ℕ → Option SecondAt → Type 0
SecondSound notes at None = Unit {0}
SecondSound notes at (Some second) = Joined notes at second.next second.shape

-- split clears crown and tagged
abbrev pub Cleared : Options → Type 0
Cleared o = o.split ≡ true → (o.crown || o.tagged) ≡ false

-- the rule by which further lines join, of the code's options
unfoldable pub passes_rule : Rule → Option Part → Shape → Bool
passes_rule Mail prefix s = ltb 0 s.indent_end && (not (is_some prefix) || ltb 0 s.prefix_place)
passes_rule (Like a) prefix s = agrees a s

-- a byte of a header's name: printable and no colon
abbrev pub header_name : ℕ → Bool
header_name b = printable b && no_colon b
