-- Words for what folding promises: a row that fits, and the output with each byte marked that was added.
use Rattle.std.specs.Prelude.{Bool, true, false, ◌&&◌, ◌||◌, List, [], ◌∷◌, ◌++◌, map, ℕ, ltb, leb, eqb}
use Rattle.lists.specs.Runs.{every, joined}
use Rattle.text.specs.Characters.{Glyph, characters}
use Rattle.lines.specs.Lines.{Line, lines_of}
use Rattle.lines.specs.Classes.{column_behind, columns_of}
use Rattle.fold.specs.Fold.{feed, rows_of, row_bytes, end_of}

-- ---- rows

abbrev pub has_no_width : Glyph → Bool
has_no_width g = eqb g.width 0

-- a single character wider than the columns, with ones of width 0 after it
unfoldable pub is_alone : ℕ → ℕ → List Glyph → Bool
is_alone tab columns [] = false
is_alone tab columns (g ∷ gs) = ltb columns (column_behind tab 0 g) && every has_no_width gs

unfoldable pub fits : ℕ → ℕ → List Glyph → Bool
fits tab columns row = leb (columns_of tab 0 row) columns || is_alone tab columns row

-- ---- marks

-- a byte of the output, and whether it was added
pub record Marked : Type 0 where
  pub byte : ℕ
  pub added : Bool

abbrev pub kept : ℕ → Marked
kept b = record { byte = b; added = false }

abbrev pub added_feed : Marked
added_feed = record { byte = feed; added = true }

-- a line's rows with their bytes kept, an added line feed before each but the first; and its line end, kept
unfoldable pub marked_rows : List (List Glyph) → List Marked
marked_rows [] = []
marked_rows (row ∷ rows) = map kept (row_bytes row) ++ joined (λ r. added_feed ∷ map kept (row_bytes r)) rows

unfoldable pub marked_line : ℕ → ℕ → Line → List Marked
marked_line tab columns l = marked_rows (rows_of tab columns (characters l.text)) ++ map kept (end_of l)

unfoldable pub marked : ℕ → ℕ → List ℕ → List Marked
marked tab columns text = joined (marked_line tab columns) (lines_of text)

-- the bytes that were not added
unfoldable pub unadded : List Marked → List ℕ
unadded [] = []
unadded (m ∷ ms) = elim m.added [ true ↦ unadded ms | false ↦ m.byte ∷ unadded ms ]
