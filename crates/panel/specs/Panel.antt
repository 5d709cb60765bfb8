-- RULES 15: the wall panel, 24 rows of 80 cells, each a code point. A row is a function of its digest line and the tab width.
use Rattle.std.specs.Prelude.{Bool, false, cond, not, ◌&&◌, ◌||◌, List, [], ◌∷◌, ◌++◌, map, ℕ, ◌+◌, ◌-◌, ltb, leb, eqb, length, get_or, drop, set, replicate, Result, Ok, Err}
use Rattle.std.proofs.lemmas.List.Edits.{sets}
use Rattle.lists.specs.Walk.{each}
use Rattle.lists.specs.Runs.{joined}
use Rattle.lists.specs.Coded.{Coded, coded}
use Rattle.widths.specs.Widths.{width_of}
use Rattle.text.specs.Rfc3629.{Front, front, nothing, decode}
use Rattle.lines.specs.Lines.{Line, lines_of}
use Rattle.lines.specs.Classes.{next_stop}
use Rattle.panel.specs.declared.Sign.{Sign}
use Rattle.panel.specs.declared.Sign.TheVariants.{Tab, Dropped, One, Two}
use Rattle.panel.specs.declared.Refused.{Refused}

-- ---- the characters of a line

abbrev pub blank : ℕ
blank = 0x20

abbrev pub filler : ℕ
filler = 0

-- U+0000 to U+001F and U+007F to U+009F
unfoldable pub control : ℕ → Bool
control c = ltb c 0x20 || leb 0x7F c && leb c 0x9F

-- a tab moves on, another control character shows as a blank, one of width 0 is dropped, one of width 2 takes two cells
unfoldable pub sign_of : ℕ → Sign
sign_of c =
    cond (eqb c 9) Tab (cond (control c) (One blank) (cond (eqb (width_of c) 0) Dropped (cond (eqb (width_of c) 2) (Two c) (One c))))

-- what is at the front of a list: a character, or a byte that begins no well-formed one, which shows as U+FFFD; and its bytes
abbrev pub shown_as : Front → Sign
shown_as (front c n) = sign_of c
shown_as nothing = One 0xFFFD

abbrev pub size : Front → ℕ
size (front c n) = n
size nothing = 1

unfoldable pub signs : List ℕ → List Sign
signs = each (λ xs. size (decode xs) - 1) (λ xs. shown_as (decode xs))

-- ---- a row

-- while it is drawn: its cells, the column of the next character, and whether one would take a cell beyond the last
pub record PanelRow : Type 0 where
  pub cells : List ℕ
  pub column : ℕ
  pub over : Bool

-- it begins as 80 blanks
unfoldable pub blank_row : PanelRow
blank_row = record { cells = replicate 80 blank; column = 0; over = false }

-- a character takes cells; where they do not all fit it is dropped, and the line runs past column 80
unfoldable pub taken : List ℕ → PanelRow → PanelRow
taken cs r =
    let end = r.column + length cs in
    let fits = leb end 80 in
    record { cells = cond fits (sets r.cells r.column cs) r.cells; column = end; over = r.over || not fits }

-- a tab moves to the next stop without marking cells; a wide character takes its cell and a filler cell
unfoldable pub drawn : ℕ → PanelRow → Sign → PanelRow
drawn tab r Tab = record { cells = r.cells; column = next_stop tab r.column; over = r.over }
drawn tab r Dropped = r
drawn tab r (One c) = taken (c ∷ []) r
drawn tab r (Two c) = taken (c ∷ filler ∷ []) r

unfoldable pub draw : ℕ → PanelRow → List Sign → PanelRow
draw tab r [] = r
draw tab r (s ∷ ss) = draw tab (drawn tab r s) ss

-- where a line runs over, the last cell shows `+`, and if it was a filler, the cell before it becomes a blank
unfoldable pub marked : List ℕ → List ℕ
marked cells = set (cond (eqb (get_or cells 79 0) filler) (set cells 78 blank) cells) 79 0x2B

unfoldable pub finished : PanelRow → List ℕ
finished r = cond r.over (marked r.cells) r.cells

-- a row's cells by its line's text
unfoldable pub row_cells : ℕ → List ℕ → List ℕ
row_cells tab line = finished (draw tab blank_row (signs line))

-- ---- the panel

-- tab width 0 acts as 1
unfoldable pub stop_width : ℕ → ℕ
stop_width tab = cond (eqb tab 0) 1 tab

-- the last 24 lines, the newest at the bottom; above fewer the rows are blank, as an empty line's is
unfoldable pub newest : List Line → List Line
newest ls = drop (length ls - 24) ls

unfoldable pub texts_of : List Line → List (List ℕ)
texts_of ls = map (λ l. l.text) ls

unfoldable pub shown : List ℕ → List (List ℕ)
shown digest =
    let ls = newest (lines_of digest) in
    replicate (24 - length ls) [] ++ texts_of ls

unfoldable pub panel_of : ℕ → List ℕ → List ℕ
panel_of tab digest = joined (row_cells (stop_width tab)) (shown digest)

-- ---- the answers

-- refused for a tab width over 100 alone, with all cells left as blanks
unfoldable pub panel_answer : ℕ → Result (Unit {0}) Refused
panel_answer tab = cond (leb tab 100) (Ok tt) (Err (record {}))

unfoldable pub cells_after : ℕ → List ℕ → List ℕ
cells_after tab digest = cond (leb tab 100) (panel_of tab digest) (replicate 1920 blank)

-- the table: code and N
abbrev pub panel_coded : Result (Unit {0}) Refused → Coded
panel_coded (Ok u) = coded 0 0
panel_coded (Err r) = coded 1 0
