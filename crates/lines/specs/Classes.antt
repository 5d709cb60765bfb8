-- RULES 4.6 to 4.8: the classes of lines, prefixes and indents.
use Rattle.std.specs.Prelude.{Bool, true, false, cond, not, ◌&&◌, ◌||◌, List, [], ◌∷◌, ◌++◌, ℕ, ◌+◌, ◌-◌, ◌*◌, ◌/◌, eqb, length, drop, Option, Some, None}
use Rattle.lists.specs.Runs.{while, every, begins}
use Rattle.text.specs.Characters.{Glyph, glyphs, is_blank, is_good, is_tab, extent}
use Rattle.options.specs.Opts.{Opts, Text, absent, given}
use Rattle.lines.specs.declared.Shape.{Shape}
use Rattle.lines.specs.declared.Class.{Class}
use Rattle.lines.specs.declared.Class.TheVariants.{Blank, Plain, Formatted}

-- Places are counted in bytes, and a line is a list of glyphs, each of one byte or more: a place cuts the list where so many bytes
-- have gone by. Every place that is asked for below is where a glyph begins. (Inside a glyph it would count as after it.)
-- The glyphs before a place, and those from it on:
unfoldable pub glyphs_before : ℕ → List Glyph → List Glyph
glyphs_before place [] = []
glyphs_before place (g ∷ gs) = elim (eqb place 0) [ true ↦ [] | false ↦ g ∷ glyphs_before (place - length g.bytes) gs ]

unfoldable pub glyphs_from : ℕ → List Glyph → List Glyph
glyphs_from place [] = []
glyphs_from place (g ∷ gs) = elim (eqb place 0) [ true ↦ g ∷ gs | false ↦ glyphs_from (place - length g.bytes) gs ]

-- the next tab stop after a column: always at least one column on
unfoldable pub next_stop : ℕ → ℕ → ℕ
next_stop tab column = (column / tab + 1) * tab

-- the column after a glyph, a tab going to the next stop; and after glyphs
unfoldable pub column_behind : ℕ → ℕ → Glyph → ℕ
column_behind tab column g = cond (is_tab g) (next_stop tab column) (column + g.width)

unfoldable pub columns_of : ℕ → ℕ → List Glyph → ℕ
columns_of tab column [] = column
columns_of tab column (g ∷ gs) = columns_of tab (column_behind tab column g) gs

-- A prefix is found at the line's start or, unless exact, at the first place with only blanks before it. xs is the line from the
-- place on, and the glyphs are its own.
unfoldable pub search : Bool → List ℕ → List ℕ → ℕ → List Glyph → Option ℕ
search exact p xs place [] = cond (begins p xs) (Some place) None
search exact p xs place (g ∷ gs) =
    elim (begins p xs) [
      | true ↦ Some place
      | false ↦ elim (g.blank && not exact) [
        | true ↦ search exact p (drop (length g.bytes) xs) (place + length g.bytes) gs
        | false ↦ None
      ]
    ]

-- the prefix's place, if it is found; without a prefix, place and length are 0
abbrev pub prefix_found : Bool → Text → List ℕ → List Glyph → Option ℕ
prefix_found exact absent line gs = Some 0
prefix_found exact (given p) line gs = search exact p line 0 gs

abbrev pub prefix_size : Text → ℕ
prefix_size absent = 0
prefix_size (given p) = length p

-- a skip prefix that is not given is found in no line
abbrev pub skip_found : Bool → Text → List ℕ → List Glyph → Option ℕ
skip_found exact absent line gs = None
skip_found exact (given p) line gs = search exact p line 0 gs

abbrev pub somewhere : Option ℕ → Bool
somewhere (Some place) = true
somewhere None = false

-- A formatted line with a prefix of so many bytes at a place: the indent ends at the first non-blank at or after the prefix's end.
-- Prefix place and indent end are places, in bytes; indent length and prefix length are columns.
unfoldable pub shape_at : ℕ → ℕ → List Glyph → ℕ → Shape
shape_at tab size gs place =
    let end = place + size in
    let toPrefixEnd = glyphs_before end gs in
    let toIndentEnd = toPrefixEnd ++ while is_blank (glyphs_from end gs) in
    record {
      prefix_place = place;
      indent_end = extent toIndentEnd;
      indent_length = columns_of tab 0 toIndentEnd;
      prefix_length = columns_of tab 0 toPrefixEnd;
    }

-- prefix not found, only blanks after the prefix, or skip prefix found: plain; else formatted
abbrev pub class_behind : Opts → List ℕ → List Glyph → Option ℕ → Class
class_behind o line gs None = Plain
class_behind o line gs (Some place) =
    cond (every is_blank (glyphs_from (place + prefix_size o.prefix) gs) || somewhere (skip_found o.exact_skip o.skip line gs)) Plain
    (Formatted (shape_at o.tab (prefix_size o.prefix) gs place))

-- the class, first that fits: all blank; a damaged character (a call with keep off has refused it); the prefixes
unfoldable pub classify : Opts → List ℕ → Class
classify o line =
    let gs = glyphs o.glue line in
    cond (every is_blank gs) Blank (cond (every is_good gs) (class_behind o line gs (prefix_found o.exact_prefix o.prefix line gs)) Plain)
