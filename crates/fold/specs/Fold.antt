-- Folding, for the wall: a text in rows of at most so many columns. Its lines are those of RULES 4.5, and its characters are read as on
-- the panel: a tab goes to the next stop, a wide one takes 2 columns, one of width 0 none, every other 1, and so does a byte at which no
-- well-formed character begins. (proofs/Reading shows that the columns are the panel's.)
use Rattle.std.specs.Prelude.{Bool, true, false, cond, ◌||◌, List, [], ◌∷◌, ◌++◌, ℕ, ◌-◌, ltb, leb, eqb, length, drop, replicate}
use Rattle.lists.specs.Walk.{each}
use Rattle.lists.specs.Runs.{joined}
use Rattle.lists.specs.Coded.{Coded, coded}
use Rattle.text.specs.Characters.{Glyph, characters}
use Rattle.lines.specs.Lines.{Line, lines_of}
use Rattle.lines.specs.Classes.{column_behind}
use Rattle.panel.specs.Panel.{stop_width}

-- ---- the rows of a line

module _ (tab columns : ℕ) where
  -- A character stays on the row of the one before it, which ends at a column, unless it would end past the columns. One of width 0
  -- always stays.
  unfoldable pub stays : ℕ → Glyph → Bool
  stays column g = leb (column_behind tab column g) columns || eqb g.width 0

  -- the characters that stay, up to the first that does not
  unfoldable pub staying_on : ℕ → List Glyph → List Glyph
  staying_on column [] = []
  staying_on column (g ∷ gs) = elim (stays column g) [ true ↦ g ∷ staying_on (column_behind tab column g) gs | false ↦ [] ]

  -- The first row of characters begins at column 0. Its first character is there whatever it takes.
  unfoldable pub first_row : List Glyph → List Glyph
  first_row [] = []
  first_row (g ∷ gs) = g ∷ staying_on (column_behind tab 0 g) gs

  -- a character that does not stay begins a new row
  unfoldable pub rows_of : List Glyph → List (List Glyph)
  rows_of = each (λ gs. length (first_row gs) - 1) first_row

-- ---- the text

abbrev pub feed : ℕ
feed = 10

unfoldable pub row_bytes : List Glyph → List ℕ
row_bytes gs = joined (λ g. g.bytes) gs

-- a row with a line feed put before it
unfoldable pub fed : List Glyph → List ℕ
fed row = feed ∷ row_bytes row

-- each row but a line's first
unfoldable pub in_rows : List (List Glyph) → List ℕ
in_rows [] = []
in_rows (row ∷ rows) = row_bytes row ++ joined fed rows

-- a line end stays as it is: a line feed, with the carriage return just before it; nothing where the last line has none
unfoldable pub end_of : Line → List ℕ
end_of l = drop (length l.text) l.raw

unfoldable pub folded_line : ℕ → ℕ → Line → List ℕ
folded_line tab columns l = in_rows (rows_of tab columns (characters l.text)) ++ end_of l

unfoldable pub folded : ℕ → ℕ → List ℕ → List ℕ
folded tab columns text = joined (folded_line tab columns) (lines_of text)

-- ---- the answers

pub data FoldAnswer : Type 0 where
  -- the folded text
  done : List ℕ → FoldAnswer
  -- a tab width over 100, no columns, or over 1,000
  options : FoldAnswer
  -- a text of over 1,073,741,824 bytes
  long : FoldAnswer
  -- no room: the length needed
  room : ℕ → FoldAnswer

-- the answer to a text, with room for so many bytes: the first refusal that applies. Tab width 0 acts as 1
unfoldable pub fold : List ℕ → ℕ → ℕ → ℕ → FoldAnswer
fold text tab columns bytes =
    let all = folded (stop_width tab) columns text in
    cond (ltb 100 tab || eqb columns 0 || ltb 1000 columns) options
    (cond (ltb 1073741824 (length text)) long
    (cond (leb (length all) bytes) (done all)
    (room (length all))))

-- the table: code and N
abbrev pub fold_coded : FoldAnswer → Coded
fold_coded (done all) = coded 0 (length all)
fold_coded options = coded 1 0
fold_coded long = coded 2 0
fold_coded (room needed) = coded 5 needed

-- the output afterwards: the folded text and the rest unchanged; unchanged; all zero
unfoldable pub fold_output_after : FoldAnswer → List ℕ → List ℕ
fold_output_after (done all) output = all ++ drop (length all) output
fold_output_after options output = output
fold_output_after long output = output
fold_output_after (room needed) output = replicate (length output) 0
