-- RULES 4.1 to 4.4: characters, damaged places, blanks and widths; and which U+00A0
-- are ordinary with glue on. A glyph is what is at a place of a line, with all that later sections ask of it; they look at glyphs alone.
use Rattle.std.specs.Prelude.{Bool, true, false, cond, not, ◌&&◌, List, [], ◌∷◌, ℕ, ◌+◌, ◌-◌, eqb, length, take, Option, Some, None}
use Rattle.widths.specs.WhiteSpace.{white_space}
use Rattle.widths.specs.Widths.{width_of}
use Rattle.lists.specs.Walk.{each}
use Rattle.lists.specs.Runs.{while, every}
use Rattle.text.specs.Rfc3629.{Front, front, nothing, decode}

pub record Glyph : Type 0 where
  -- its bytes, as they are in the line
  pub bytes : List ℕ
  -- the character's number; U+FFFD of a damaged byte
  pub code : ℕ
  -- no character of RFC 3629 begins here
  pub damaged : Bool
  pub blank : Bool
  pub width : ℕ

abbrev pub is_tab : Glyph → Bool
is_tab g = eqb g.code 9

-- RULES 4.1 to 4.3: every well-formed character is accepted; blanks are the White_Space set, and each has its width by the table.
-- The character at the front of a list; a damaged one has one byte
abbrev pub glyph_as : List ℕ → Front → Glyph
glyph_as xs (front c n) = record { bytes = take n xs; code = c; damaged = false; blank = white_space c; width = width_of c }
glyph_as xs nothing = record { bytes = take 1 xs; code = 0xFFFD; damaged = true; blank = false; width = 1 }

unfoldable pub glyph : List ℕ → Glyph
glyph xs = glyph_as xs (decode xs)

-- a text as its characters, read from the front, each by itself
unfoldable pub characters : List ℕ → List Glyph
characters = each (λ xs. length (glyph xs).bytes - 1) glyph

-- RULES 4.4: with glue on, U+00A0 is ordinary only if the nearest characters on its line, left and right, skipping further U+00A0, are both
-- there and not blanks; otherwise, a line's edge included, it is blank.
abbrev pub no_break : Glyph → Bool
no_break g = eqb g.code 0xA0

abbrev pub ordinary : Glyph → Glyph
ordinary g = record { bytes = g.bytes; code = g.code; damaged = g.damaged; blank = false; width = g.width }

-- to the right: the nearest character, skipping U+00A0, is there and not a blank
unfoldable pub ink_ahead : List Glyph → Bool
ink_ahead [] = false
ink_ahead (g ∷ gs) = elim (no_break g) [ true ↦ ink_ahead gs | false ↦ not g.blank ]

-- the rest of a line; `ink` says the same of what is to the left: the nearest character, skipping U+00A0, is there and not a blank
unfoldable pub glued : Bool → List Glyph → List Glyph
glued ink [] = []
glued ink (g ∷ gs) =
    elim (no_break g) [
      | true ↦ cond (ink && ink_ahead gs) (ordinary g) g ∷ glued ink gs
      | false ↦ g ∷ glued (not g.blank) gs
    ]

-- a line as its glyphs: with glue off, its characters
unfoldable pub glyphs : Bool → List ℕ → List Glyph
glyphs true line = glued false (characters line)
glyphs false line = characters line

abbrev pub is_blank : Glyph → Bool
is_blank g = g.blank

abbrev pub is_good : Glyph → Bool
is_good g = not g.damaged

-- how many bytes glyphs have
unfoldable pub extent : List Glyph → ℕ
extent [] = 0
extent (g ∷ gs) = length g.bytes + extent gs

-- the damaged place of a text: the first byte at which no character begins
unfoldable pub damage : List ℕ → Option ℕ
damage xs = let gs = characters xs in cond (every is_good gs) None (Some (extent (while is_good gs)))
