-- How the code's answers at a place mean what is at the front of the text from there on.
use Rattle.std.specs.Prelude.{◌≡◌, Bool, true, false, cond, not, ◌&&◌, List, [], ◌∷◌, ℕ, ◌+◌, ◌*◌, ◌/◌, ◌%◌, ◌≤◌, ◌<◌, ltb, leb, eqb, length, get_or, drop, None, Option, Some}
use Rattle.lists.specs.Runs.{while}
use Rattle.widths.specs.WhiteSpace.{white_space}
use Rattle.text.specs.Rfc3629.{Front, front, nothing}
use Rattle.text.specs.Characters.{Glyph, characters, no_break, ink_ahead, glued, extent}
use Rattle.text.specs.declared.Char.{Char}
use Rattle.text.specs.declared.Glyph.{Glyph as Seen}
use Rattle.text.specs.declared.Glyph.TheVariants.{Ink, Blank, Damaged as Broken}

abbrev pub good : ℕ → ℕ → Option Char
good code next = Some (record { code = code; next = next })

abbrev pub read_as : ℕ → Front → Option Char
read_as at (front c n) = good c (at + n)
read_as at nothing = None

-- a character, by its number and the place after it
abbrev pub glyph_of : ℕ → ℕ → Seen
glyph_of code next = cond (white_space code) (Blank code next) (Ink code next)

unfoldable pub seen_as : ℕ → Glyph → Seen
seen_as at g = let next = at + length g.bytes in cond g.damaged Broken (cond g.blank (Blank g.code next) (Ink g.code next))

-- the bytes from a place up to another are below 0x80
pub record Ascii (s : List ℕ) (from to : ℕ) : Type 0 where
  pub on : from ≤ to
  pub within : to ≤ length s
  pub small : (i : ℕ) → from ≤ i → i < to → get_or s i 0 < 0x80

-- the bytes from a place up to another are from 32 to 127
abbrev pub Printable : List ℕ → ℕ → ℕ → Type 0
Printable s from to = (k : ℕ) → from ≤ k → k < to → (32 ≤ get_or s k 0) × (get_or s k 0 < 128)

-- a character of two bytes is at a place, U+0080 to U+07FF
abbrev pub pair_code : List ℕ → ℕ → ℕ
pair_code s at = get_or s at 0 % 32 * 64 + get_or s (at + 1) 0 % 64

pub record Pair (s : List ℕ) (at : ℕ) : Type 0 where
  pub within : at + 1 < length s
  pub least : 0xC2 ≤ get_or s at 0
  pub most : get_or s at 0 ≤ 0xDF
  pub second : get_or s (at + 1) 0 / 64 ≡ 2

-- a letter of two bytes is at a place, U+00C0 to U+02FF or U+0380 to U+047F: each takes one column, and none is blank; those between
-- begin with CC or CD
unfoldable pub letter_at : List ℕ → ℕ → Bool
letter_at s at =
    ltb (at + 1) (length s) && (leb 0xC3 (get_or s at 0) && (leb (get_or s at 0) 0xD1 && (not (eqb (get_or s at 0 / 2) 0x66) && eqb (get_or s (at + 1) 0 / 64) 2)))

-- the rest of a line as its glyphs, with glue or without: whether the nearest character to the left, skipping U+00A0, is there and not a blank
unfoldable pub settle : Bool → Bool → List Glyph → List Glyph
settle true ink gs = glued ink gs
settle false ink gs = gs

-- the glyphs of a text that is after ink
unfoldable pub ink_glyphs : Bool → List ℕ → List Glyph
ink_glyphs glue xs = settle glue true (characters xs)

-- the same question after a character, and after characters
unfoldable pub ink_behind : Bool → Glyph → Bool
ink_behind ink g = elim (no_break g) [ true ↦ ink | false ↦ not g.blank ]

unfoldable pub ink_after : Bool → List Glyph → Bool
ink_after ink [] = ink
ink_after ink (g ∷ gs) = ink_after (ink_behind ink g) gs

-- U+00A0 is at a place
unfoldable pub no_break_at : List ℕ → ℕ → Bool
no_break_at s at = eqb (get_or s at 0) 0xC2 && eqb (get_or s (at + 1) 0) 0xA0

-- how many bytes of U+00A0 at the front are ordinary after ink: all of a run, or none
unfoldable pub glued_extent : List Glyph → ℕ
glued_extent gs = cond (ink_ahead gs) (extent (while no_break gs)) 0

-- U+00A0 stand from a place up to another, where none does
pub record RunOver (s : List ℕ) (at end : ℕ) : Type 0 where
  pub run : end ≡ at + extent (while no_break (characters (drop at s)))
  pub ahead : ink_ahead (characters (drop at s)) ≡ ink_ahead (characters (drop end s))
  pub stops : no_break_at s end ≡ false
  pub within : end ≤ length s
