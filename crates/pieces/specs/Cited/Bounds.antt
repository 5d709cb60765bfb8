-- What a piece's places and numbers keep to: they are in order inside the notes, columns and further spaces are few, and words begin
-- at ink. Promised beside the piece itself, for those who go on with it.
use Rattle.std.specs.Prelude.{◌≡◌, Bool, false, List, [], ◌∷◌, ℕ, ◌+◌, ◌≤◌, ◌<◌, length, drop}
use Rattle.std.proofs.Math.Seq.{slice}
use Rattle.lists.specs.Runs.{while}
use Rattle.text.specs.Characters.{glyphs, is_blank}
use Rattle.text.specs.Cited.Places.{ink_glyphs}
use Rattle.lines.specs.Lines.{Line, lines_of}
use Rattle.lines.specs.Classes.{glyphs_from}
use Rattle.lines.specs.Cited.Places.{most_columns}
use Rattle.pieces.specs.declared.Margin.{Margin}
use Rattle.pieces.specs.declared.Paragraph.{Paragraph}
use Rattle.pieces.specs.declared.Piece.{Piece}
use Rattle.pieces.specs.declared.Piece.TheVariants.{Blank, Plain, Text}

-- a glyph begins at a place of a line, and it is no blank: what stands there is read as after ink
pub record InkBegins (glue : Bool) (start : ℕ) (text : List ℕ) : Type 0 where
  pub within : start ≤ length text
  pub glyph : glyphs_from start (glyphs glue text) ≡ ink_glyphs glue (drop start text)
  pub ink : while is_blank (ink_glyphs glue (drop start text)) ≡ []

-- so at the start of the first line and at the later start of the others
unfoldable pub AllBegin : Bool → ℕ → ℕ → List Line → Type 0
AllBegin glue start later [] = Unit {0}
AllBegin glue start later (l ∷ ls) = InkBegins glue start l.text × AllBegin glue later later ls

-- an indent of a paragraph that stands from at up to next; a tab takes up to 100 columns, and four spaces may be added
pub record MarginWithin (at next : ℕ) (m : Margin) : Type 0 where
  pub low : at ≤ m.start
  pub order : m.start ≤ m.end
  pub high : m.end ≤ next
  pub more : m.more ≤ 4
  pub columns : m.columns ≤ most_columns + 4

pub record ParagraphWithin (glue : Bool) (notes : List ℕ) (at : ℕ) (p : Paragraph) : Type 0 where
  pub on : at < p.next
  pub within : p.next ≤ length notes
  pub first : MarginWithin at p.next p.first
  pub indent : MarginWithin at p.next p.indent
  pub begins : p.mail ≡ false → AllBegin glue p.start p.later (lines_of (slice at p.next notes))

-- a piece that begins at a place of the notes takes a byte or more, and ends inside them
abbrev pub Bounded : Bool → List ℕ → ℕ → Piece → Type 0
Bounded glue notes at (Blank next) = (at < next) × (next ≤ length notes)
Bounded glue notes at (Plain end next) = (at < next) × (next ≤ length notes) × (at ≤ end) × (end ≤ next)
Bounded glue notes at (Text p) = ParagraphWithin glue notes at p
