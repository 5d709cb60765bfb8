-- Folded texts by the sentences of RULES 16: one table and one statement.
use Rattle.std.specs.Prelude.{Bool, List, [], ◌∷◌, ℕ, T}
use Prim.Native.String.{String}
use Rattle.lists.specs.Walk.{walk_up_to, walk, piece, each}
use Rattle.lists.specs.Runs.{while, every, begins, joined}
use Rattle.lists.specs.Trials.Bytes.{bytes, same}
use Rattle.widths.specs.Ranges.{width_in}
use Rattle.widths.specs.Table.{table as widthTable}
use Rattle.widths.specs.Widths.{width_of}
use Rattle.widths.specs.WhiteSpace.{white_space}
use Rattle.text.specs.Rfc3629.{scalar, encode, spelled, decode}
use Rattle.text.specs.Characters.{glyph, characters}
use Rattle.lines.specs.Lines.{body, without_return, first_line, lines_of}
use Rattle.lines.specs.Classes.{next_stop, column_behind}
use Rattle.panel.specs.Panel.{stop_width}
use Rattle.fold.specs.Fold.{stays, staying_on, first_row, rows_of, row_bytes, fed, in_rows, end_of, folded_line, folded}

pub record Row : Type 0 where
  pub tab : ℕ
  pub columns : ℕ
  pub text : List ℕ
  pub rows : List ℕ

-- a text of a table as UTF-8
unfoldable pub utf8 : String → List ℕ
utf8 s = joined encode (bytes s)

abbrev pub row : ℕ → ℕ → String → String → Row
row tab columns t r = record { tab = tab; columns = columns; text = utf8 t; rows = utf8 r }

abbrev pub raw : ℕ → ℕ → List ℕ → List ℕ → Row
raw tab columns t r = record { tab = tab; columns = columns; text = t; rows = r }

abbrev pub right : Row → Bool
right r = same (folded (stop_width r.tab) r.columns r.text) r.rows

abbrev pub table : List Row
table =
    row 8 4 "" ""
    -- lines end at line feeds; line ends stay as they are, a missing last one stays missing
    ∷ row 8 4 "abcdefghi\njkl\n\nmnopq" "abcd\nefgh\ni\njkl\n\nmnop\nq"
    ∷ row 8 4 "abcd\n" "abcd\n"
    -- a carriage return just before a line feed takes no column; in the last line it is a character; of two the first is one
    ∷ row 8 4 "abcd\r\nabcde\r\n" "abcd\r\nabcd\ne\r\n"
    ∷ row 8 4 "abcd\r" "abcd\n\r"
    ∷ row 8 4 "abcd\r\r\n" "abcd\n\r\r\n"
    ∷ row 8 4 "ab\rcde" "ab\rc\nde"
    -- a tab goes to the next stop, from a row's start to the first; tab 0 acts as 1
    ∷ row 4 6 "a\tbcd" "a\tbc\nd"
    ∷ row 4 6 "abcd\te" "abcd\n\te"
    ∷ row 8 4 "a\tb\t\tc" "a\n\t\nb\n\t\n\t\nc"
    ∷ row 0 2 "\t\t\tab" "\t\t\n\ta\nb"
    -- a wide character takes two columns, and stands alone where there is one
    ∷ row 8 3 "a中中b" "a中\n中b"
    ∷ row 8 2 "a中b" "a\n中\nb"
    ∷ row 8 1 "中a中" "中\na\n中"
    -- one of width 0 stays, even past the columns, and begins no row but a line's first, where it counts as a character
    ∷ row 8 2 "abx́́c" "ab\nx́́c"
    ∷ row 8 2 "ab́́c" "ab́́\nc"
    ∷ row 8 1 "中́́a" "中́́\na"
    ∷ row 8 1 "́中" "́\n中"
    ∷ row 8 1 "́a" "́a"
    -- control characters take one column, and no other character ends a line
    ∷ raw 8 2 (1 ∷ 0x7F ∷ 0x0B ∷ 0x0C ∷ 0xC2 ∷ 0x85 ∷ []) (1 ∷ 0x7F ∷ 10 ∷ 0x0B ∷ 0x0C ∷ 10 ∷ 0xC2 ∷ 0x85 ∷ [])
    ∷ raw 8 2 (0x61 ∷ 0xE2 ∷ 0x80 ∷ 0xA8 ∷ 0x62 ∷ []) (0x61 ∷ 0xE2 ∷ 0x80 ∷ 0xA8 ∷ 10 ∷ 0x62 ∷ [])
    -- a byte at which no well-formed character begins takes one
    ∷ raw 8 2 (0xE4 ∷ 0xB8 ∷ 0x61 ∷ 0xFF ∷ []) (0xE4 ∷ 0xB8 ∷ 10 ∷ 0x61 ∷ 0xFF ∷ [])
    ∷ raw 8 1 (0xE4 ∷ 0xB8 ∷ 10 ∷ 0xAD ∷ []) (0xE4 ∷ 10 ∷ 0xB8 ∷ 10 ∷ 0xAD ∷ [])
    ∷ []

pub folded_texts : T (every right table)
unfolding utf8 walk_up_to walk piece each while every begins joined width_in widthTable width_of white_space scalar encode spelled decode glyph characters body without_return first_line lines_of next_stop column_behind stop_width stays staying_on first_row rows_of row_bytes fed in_rows end_of folded_line folded
folded_texts = tt
