-- The words of the theorems, computed: which rows fit and which do not, and the marks of an output.
use Rattle.std.specs.Prelude.{◌≡◌, refl, Bool, true, false, not, List, [], ◌∷◌, map, ℕ, T}
use Prim.Native.String.{String}
use Rattle.lists.specs.Walk.{walk_up_to, walk, piece, each}
use Rattle.lists.specs.Runs.{while, every, begins, joined}
use Rattle.widths.specs.Ranges.{width_in}
use Rattle.widths.specs.Table.{table as widthTable}
use Rattle.widths.specs.Widths.{width_of}
use Rattle.widths.specs.WhiteSpace.{white_space}
use Rattle.text.specs.Rfc3629.{scalar, encode, spelled, decode}
use Rattle.text.specs.Characters.{glyph, characters}
use Rattle.lines.specs.Lines.{body, without_return, first_line, lines_of}
use Rattle.lines.specs.Classes.{next_stop, column_behind, columns_of}
use Rattle.fold.specs.Fold.{stays, staying_on, first_row, rows_of, row_bytes, end_of}
use Rattle.fold.specs.Theorems.Rows.{Marked, is_alone, fits, marked_rows, marked_line, marked}
use Rattle.fold.specs.Trials.Folded.{utf8}

-- a row of a text, at a tab width of 8 and so many columns
abbrev pub fits_in : ℕ → String → Bool
fits_in columns t = fits 8 columns (characters (utf8 t))

abbrev pub rows : List Bool
rows =
    fits_in 4 "abcd"
    ∷ fits_in 4 "abcd́"
    ∷ fits_in 8 "a\t"
    ∷ fits_in 4 "中中"
    -- alone, with ones of width 0 after it
    ∷ fits_in 1 "中"
    ∷ fits_in 1 "中́́"
    ∷ fits_in 4 "\t"
    -- too long; two wide ones; one with a letter after or before it, or with one of width 0 before it
    ∷ not (fits_in 4 "abcde")
    ∷ not (fits_in 7 "a\t")
    ∷ not (fits_in 3 "中中")
    ∷ not (fits_in 1 "中中")
    ∷ not (fits_in 1 "中a")
    ∷ not (fits_in 1 "a中")
    ∷ not (fits_in 1 "́中")
    ∷ not (fits_in 4 "\t\t")
    ∷ []

pub rows_that_fit : T (every (λ b. b) rows)
unfolding utf8 walk_up_to walk piece each while every begins joined width_in widthTable width_of white_space scalar encode spelled decode glyph characters next_stop column_behind columns_of is_alone fits
rows_that_fit = tt

-- `abcde`, a line feed and `fg`, at 2 columns: of three line feeds in the output two were put
abbrev pub is_added : Marked → ℕ
is_added m = elim m.added [ true ↦ 1 | false ↦ 0 ]

pub marks : map is_added (marked 8 2 (utf8 "abcde\nfg")) ≡ 0 ∷ 0 ∷ 1 ∷ 0 ∷ 0 ∷ 1 ∷ 0 ∷ 0 ∷ 0 ∷ 0 ∷ []
unfolding utf8 walk_up_to walk piece each while every begins joined width_in widthTable width_of white_space scalar encode spelled decode glyph characters body without_return first_line lines_of next_stop column_behind stays staying_on first_row rows_of row_bytes end_of marked_rows marked_line marked
marks = refl
