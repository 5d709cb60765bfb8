-- How the code's answers, which are places and counts, mean what the definitions say of bytes and glyphs.
use Rattle.std.specs.Prelude.{◌≡◌, Bool, false, cond, ◌&&◌, List, ◌∷◌, ℕ, ◌+◌, ◌-◌, ◌*◌, ◌≤◌, ◌<◌, eqb, length, get_or, drop, Option, Some, None}
use Rattle.lists.specs.Runs.{while, every}
use Rattle.lists.specs.Theorems.All.{All}
use Rattle.text.specs.Characters.{Glyph, glyph, characters, ink_ahead, is_blank, extent, damage}
use Rattle.text.specs.Cited.Places.{Ascii, settle, ink_after, no_break_at}
use Rattle.options.specs.Opts.{Opts}
use Rattle.options.specs.declared.Part.{Part}
use Rattle.options.specs.declared.Options.{Options}
use Rattle.lines.specs.Lines.{Line, body}
use Rattle.lines.specs.Classes.{glyphs_before, glyphs_from, column_behind, columns_of, shape_at, classify}
use Rattle.lines.specs.declared.Extent.{Extent}
use Rattle.lines.specs.declared.ClassedExtent.{ClassedExtent}
use Rattle.lines.specs.declared.Spot.{Spot}
use Rattle.lines.specs.declared.Class.{Class}
use Rattle.lines.specs.declared.Class.TheVariants.{Plain, Formatted}

-- what the code is proved for: notes of so many bytes, and the columns that they take where each byte is a tab of 100
abbrev pub most_large : ℕ
most_large = 1048576

abbrev pub most_columns : ℕ
most_columns = 104857600

-- a line by its lengths: of its text, and with its line end
unfoldable pub lengths_of : Line → Extent
lengths_of l = record { text = length l.text; whole = length l.raw }

-- the same, with the class of its text
unfoldable pub classed_of : Opts → Line → ClassedExtent
classed_of o l = record { extent = lengths_of l; class = classify o l.text }

-- where the line ends that goes on at a place: it is the same from each place of a body
abbrev pub body_end : List ℕ → ℕ → ℕ
body_end s at = at + length (body (drop at s))

-- the bytes from a place up to another are below 0x80, and no line feed is among them
pub record AsciiBody (s : List ℕ) (from to : ℕ) : Type 0 where
  pub ascii : Ascii s from to
  pub same : body_end s from ≡ body_end s to

-- no line's text has a damaged character
abbrev pub LinesSound : List Line → Type 0
LinesSound = All (λ (l : Line). damage l.text ≡ None)

-- one byte stands from a place up to another, again and again
pub record Repeats (byte : ℕ) (s : List ℕ) (from to : ℕ) : Type 0 where
  pub on : from ≤ to
  pub within : to ≤ length s
  pub each : (i : ℕ) → from ≤ i → i < to → get_or s i 0 ≡ byte

-- r is the place after the tabs that are after a blank, if it is one
pub record BehindTabs (s : List ℕ) (code next r : ℕ) : Type 0 where
  pub run : Repeats 9 s next r
  pub only : (code ≡ 9 → ⊥) → r ≡ next

-- a part given lies in the block
abbrev pub Lies : List ℕ → Option Part → Type 0
Lies block None = Unit {0}
Lies block (Some part) = (part.start ≤ part.end) × (part.end ≤ length block)

-- what classifying asks of the options: all that reading a block accepts
pub record Usable (block : List ℕ) (o : Options) : Type 0 where
  pub prefix : Lies block o.prefix
  pub skip : Lies block o.skip
  pub least : 1 ≤ o.tab
  pub most : o.tab ≤ 100

-- a place of a line with its column, which is small
pub record Inside (line : List ℕ) (m : Spot) : Type 0 where
  pub place : m.at ≤ length line
  pub small : m.column ≤ 100 * m.at

abbrev pub line_start : Spot
line_start = record { at = 0; column = 0 }

-- the spot after glyphs that are at m
unfoldable pub behind_all : ℕ → Spot → List Glyph → Spot
behind_all tab m gs = record { at = m.at + extent gs; column = columns_of tab m.column gs }

-- the class of a line whose prefix, of so many bytes, was looked for; the skip prefix is left out of account
abbrev pub class_at : ℕ → ℕ → List Glyph → Option ℕ → Class
class_at tab size gs None = Plain
class_at tab size gs (Some place) = cond (every is_blank (glyphs_from (place + size) gs)) Plain (Formatted (shape_at tab size gs place))

-- r is the spot after the character at m
pub record Behind (tab : ℕ) (line : List ℕ) (m r : Spot) : Type 0 where
  pub on : m.at < r.at
  pub inside : Inside line r
  pub first : characters (drop m.at line) ≡ glyph (drop m.at line) ∷ characters (drop r.at line)
  pub count : length (glyph (drop m.at line)).bytes ≡ r.at - m.at
  pub column : column_behind tab m.column (glyph (drop m.at line)) ≡ r.column

-- gs is the line from m on; r is the spot after its blanks there; the line's end, if they are only blanks
pub record BehindBlanks (tab : ℕ) (line : List ℕ) (gs : List Glyph) (m r : Spot) : Type 0 where
  pub inside : Inside line r
  pub spot : r ≡ behind_all tab m (while is_blank gs)
  pub blank : every is_blank gs ≡ eqb r.at (length line)

-- r is the spot after the characters before a place, where those from it on stand
pub record BehindPlace (tab : ℕ) (line : List ℕ) (place : ℕ) (r : Spot) : Type 0 where
  pub spot : r ≡ behind_all tab line_start (glyphs_before place (characters line))
  pub rest : characters (drop r.at line) ≡ glyphs_from place (characters line)

-- whether the nearest character before a place, skipping U+00A0, is there and not a blank
unfoldable pub ink_before : ℕ → List ℕ → Bool
ink_before place line = ink_after false (glyphs_before place (characters line))

-- the glyphs of a line from its prefix's end on, which is at a place
abbrev pub glyphs_behind : Bool → List ℕ → ℕ → ℕ → List Glyph
glyphs_behind glue line end at = settle glue (ink_before end line) (characters (drop at line))

-- an ordinary U+00A0 stands there
unfoldable pub glued_at : Bool → List ℕ → ℕ → ℕ → Bool
glued_at glue line end at = glue && no_break_at line at && ink_ahead (characters (drop at line)) && ink_before end line
