-- Worked by computing: an empty digest, two rows of different lengths, 25 lines, and rows at the panel's edge.
use mathlib.Core.Path.{◌≡◌, refl}
use mathlib.Core.List.{List, [], ◌∷◌, ◌++◌}
use Prim.Native.Nat.{ℕ}
use lib.ListN.{replicate}
use Rattle.lists.specs.Walk.{walk_up_to, walk, piece, each}
use Rattle.lists.specs.Runs.{while, begins, joined}
use Rattle.widths.specs.Ranges.{width_in}
use Rattle.widths.specs.Table.{table}
use Rattle.widths.specs.Widths.{width_of}
use Rattle.text.specs.Rfc3629.{scalar, encode, spelled, decode}
use Rattle.lines.specs.Lines.{body, without_return, first_line, lines_of}
use Rattle.lines.specs.Classes.{next_stop}
use Rattle.panel.specs.Panel.{blank, control, sign_of, signs, blank_row, taken, drawn, draw, marked, finished, row_cells, stop_width, newest, texts_of, shown, panel_of}

-- a row that begins with a text
begins_with : List ℕ → ℕ → List ℕ
begins_with text more = text ++ replicate more blank

an_empty_digest : panel_of 8 [] ≡ replicate 1920 blank
unfolding walk_up_to walk piece each while begins joined width_in table width_of scalar encode spelled decode body without_return first_line lines_of next_stop control sign_of signs blank_row taken drawn draw marked finished row_cells stop_width newest texts_of shown panel_of
an_empty_digest = refl

-- `ab`, line feed, `c`
two_rows : panel_of 8 (97 ∷ 98 ∷ 10 ∷ 99 ∷ []) ≡ replicate 1760 blank ++ begins_with (97 ∷ 98 ∷ []) 78 ++ begins_with (99 ∷ []) 79
unfolding begins_with walk_up_to walk piece each while begins joined width_in table width_of scalar encode spelled decode body without_return first_line lines_of next_stop control sign_of signs blank_row taken drawn draw marked finished row_cells stop_width newest texts_of shown panel_of
two_rows = refl

-- `a` to `y`, a letter a line: the first line is gone
twenty_five : List ℕ
twenty_five = 97 ∷ 10 ∷ 98 ∷ 10 ∷ 99 ∷ 10 ∷ 100 ∷ 10 ∷ 101 ∷ 10 ∷ 102 ∷ 10 ∷ 103 ∷ 10 ∷ 104 ∷ 10 ∷ 105 ∷ 10 ∷ 106 ∷ 10 ∷ 107 ∷ 10 ∷ 108 ∷ 10 ∷ 109 ∷ 10 ∷ 110 ∷ 10 ∷ 111 ∷ 10 ∷ 112 ∷ 10 ∷ 113 ∷ 10 ∷ 114 ∷ 10 ∷ 115 ∷ 10 ∷ 116 ∷ 10 ∷ 117 ∷ 10 ∷ 118 ∷ 10 ∷ 119 ∷ 10 ∷ 120 ∷ 10 ∷ 121 ∷ 10 ∷ []

the_first_of_25_lines_is_gone : panel_of 8 twenty_five
    ≡ joined (λ c. begins_with (c ∷ []) 79) (98 ∷ 99 ∷ 100 ∷ 101 ∷ 102 ∷ 103 ∷ 104 ∷ 105 ∷ 106 ∷ 107 ∷ 108 ∷ 109 ∷ 110 ∷ 111 ∷ 112 ∷ 113 ∷ 114 ∷ 115 ∷ 116 ∷ 117 ∷ 118 ∷ 119 ∷ 120 ∷ 121 ∷ [])
unfolding twenty_five begins_with walk_up_to walk piece each while begins joined width_in table width_of scalar encode spelled decode body without_return first_line lines_of next_stop control sign_of signs blank_row taken drawn draw marked finished row_cells stop_width newest texts_of shown panel_of
the_first_of_25_lines_is_gone = refl

-- `a`, a tab, `b`
a_tab : row_cells 8 (97 ∷ 9 ∷ 98 ∷ []) ≡ begins_with (97 ∷ []) 7 ++ begins_with (98 ∷ []) 71
unfolding begins_with walk_up_to walk piece each while begins joined width_in table width_of scalar encode spelled decode body without_return first_line lines_of next_stop control sign_of signs blank_row taken drawn draw marked finished row_cells stop_width newest texts_of shown panel_of
a_tab = refl

-- U+4E2D in the last two cells; and a letter after it
x : ℕ → List ℕ → List ℕ
x n more = replicate n 120 ++ more

wide_fits : row_cells 8 (x 78 (0xE4 ∷ 0xB8 ∷ 0xAD ∷ [])) ≡ x 78 (0x4E2D ∷ 0 ∷ [])
unfolding x begins_with walk_up_to walk piece each while begins joined width_in table width_of scalar encode spelled decode body without_return first_line lines_of next_stop control sign_of signs blank_row taken drawn draw marked finished row_cells stop_width newest texts_of shown panel_of
wide_fits = refl

wide_blanked : row_cells 8 (x 78 (0xE4 ∷ 0xB8 ∷ 0xAD ∷ 121 ∷ [])) ≡ x 78 (0x20 ∷ 0x2B ∷ [])
unfolding x begins_with walk_up_to walk piece each while begins joined width_in table width_of scalar encode spelled decode body without_return first_line lines_of next_stop control sign_of signs blank_row taken drawn draw marked finished row_cells stop_width newest texts_of shown panel_of
wide_blanked = refl

wide_dropped : row_cells 8 (x 79 (0xE4 ∷ 0xB8 ∷ 0xAD ∷ [])) ≡ x 79 (0x2B ∷ [])
unfolding x begins_with walk_up_to walk piece each while begins joined width_in table width_of scalar encode spelled decode body without_return first_line lines_of next_stop control sign_of signs blank_row taken drawn draw marked finished row_cells stop_width newest texts_of shown panel_of
wide_dropped = refl
