-- The writer of RULES 17.1 and its readings at width 10, worked by computing: one table of paragraphs and one of plain lines.
use Rattle.std.specs.Prelude.{Bool, true, false, ◌&&◌, List, [], ◌∷◌, ℕ, T, eqb}
use Prim.Native.String.{String}
use Rattle.lists.specs.Walk.{walk_up_to, walk, piece, each}
use Rattle.lists.specs.Runs.{while, behind, every, begins, joined}
use Rattle.lists.specs.Trials.Bytes.{bytes, same}
use Rattle.widths.specs.Ranges.{width_in}
use Rattle.widths.specs.Table.{table}
use Rattle.widths.specs.Widths.{width_of}
use Rattle.widths.specs.WhiteSpace.{white_space}
use Rattle.text.specs.Rfc3629.{scalar, encode, spelled, decode}
use Rattle.text.specs.Characters.{glyph, characters, glyphs, extent}
use Rattle.options.specs.Opts.{Opts, Text, absent, given}
use Rattle.lines.specs.Lines.{body, without_return, first_line, lines_of}
use Rattle.lines.specs.Classes.{glyphs_before, glyphs_from, next_stop, column_behind, columns_of, search, shape_at, classify}
use Rattle.pieces.specs.Pieces.{from_word, header_text, starts_mail, continues, agrees, second_rule, follow, second_of, further, indent_of, first_indent, indent_for, row_of, paragraph_at, next_piece, pieces}
use Rattle.words.specs.Words.{run_of, runs, bytes_of, width_sum, gap_from, gap_of, punct_at_end, counting, wide_gap, word_of, line_words, mail_word, mail_words, row_words, words_of}
use Rattle.spacing.specs.Spacing.{gap_width, added_space}
use Rattle.output.specs.Emission.{space_before}
use Rattle.quick.specs.Quick.{quick_from, quick_breaks}
use Rattle.paragraphs.specs.Breaks.{setting_of}
use Rattle.unflow.specs.Flowed.{needs_space, stuffing, is_dashes}
use Rattle.output.specs.EmittedLines.{lines_from}
use Rattle.flow.specs.Flow.{broken_into, paragraph_lines, is_dashed, softened, all_but_last, dashes_among, trimmed, plain_sent, sent_lines, sent, sent_piece, flowed, dashes_in}

-- width 10 and no other option, but a skip prefix perhaps
abbrev pub narrow : Text → Opts
narrow skip = record {
  crown = false;
  tagged = false;
  mail = false;
  split = false;
  uniform = true;
  quick = true;
  exact_prefix = false;
  exact_skip = false;
  keep = false;
  glue = false;
  by_characters = false;
  width = 10;
  goal = 7;
  tab = 8;
  prefix = absent;
  skip = skip;
}

pub record Row : Type 0 where
  pub notes : String
  pub mail : String
  pub dashes : ℕ

abbrev pub row : String → String → ℕ → Row
row n m d = record { notes = n; mail = m; dashes = d }

abbrev pub right : Text → Row → Bool
right skip r =
    let o = narrow skip in
    let notes = bytes r.notes in
    same (flowed o notes) (bytes r.mail) && eqb (dashes_in o (pieces o notes)) r.dashes

abbrev pub paragraph_table : List Row
paragraph_table =
    -- an empty text, and a blank line
    row "" "" 0
    ∷ row " \t\n" "\r\n" 0
    -- every line of a paragraph but the last is soft; spacing is uniform
    ∷ row "aaaa bbbbb c\n" "aaaa bbbbb \r\nc\r\n" 0
    ∷ row "a  b\n" "a b\r\n" 0
    ∷ row "x a.\nb\n" "x a.  b\r\n" 0
    -- a soft line that would be `-- `; with an indent it is an ordinary one, and a last line is fixed anyway
    ∷ row "aaaaaaaa -- bbbbbbbb c\n" "aaaaaaaa \r\n--\r\nbbbbbbbb c\r\n" 1
    ∷ row "-- \naaaaaaaa\n" "--\r\naaaaaaaa\r\n" 1
    ∷ row "  -- aaaaaa\n" "   -- \r\n   aaaaaa\r\n" 0
    ∷ row "aaaaaaaa --\n" "aaaaaaaa \r\n--\r\n" 0
    -- stuffing, judged on the line as it is sent
    ∷ row "From x is long\n" " From x is \r\nlong\r\n" 0
    ∷ row "aaaaaa From bbbbbb\n" "aaaaaa \r\n From \r\nbbbbbb\r\n" 0
    ∷ row "aaaaaaaa From\n" "aaaaaaaa \r\nFrom\r\n" 0
    ∷ row "> aaaaaaa >b\n" " > aaaaaaa \r\n >b\r\n" 0
    ∷ row "  a bbbbbb\n" "   a bbbbbb\r\n" 0
    -- line ends
    ∷ row "a\r\n\r\nb" "a\r\n\r\nb\r\n" 0
    ∷ []

-- an empty skip prefix is found in every line, so that each is plain
abbrev pub plain_table : List Row
plain_table =
    -- plain lines lose the spaces at their end, unless they are `-- `, before stuffing is judged
    row "a  \n" "a\r\n" 0
    ∷ row "-- \n" "-- \r\n" 0
    ∷ row "--  \n" "--\r\n" 0
    ∷ row "From  \n" "From\r\n" 0
    ∷ row "From x\n" " From x\r\n" 0
    ∷ row " >\n" "  >\r\n" 0
    ∷ row "x \r" "x \r\r\n" 0
    ∷ []

pub sent_texts : T (every (right absent) paragraph_table && every (right (given [])) plain_table)
unfolding walk_up_to walk piece each while behind every begins joined scalar encode spelled decode width_in table width_of white_space glyph characters glyphs extent body without_return first_line lines_of glyphs_before glyphs_from next_stop column_behind columns_of search shape_at classify from_word header_text starts_mail continues agrees second_rule follow second_of further indent_of first_indent indent_for row_of paragraph_at next_piece pieces run_of runs bytes_of width_sum gap_from gap_of punct_at_end counting wide_gap word_of line_words mail_word mail_words row_words words_of gap_width added_space space_before quick_from quick_breaks setting_of needs_space stuffing is_dashes lines_from broken_into paragraph_lines is_dashed softened all_but_last dashes_among trimmed plain_sent sent_lines sent sent_piece flowed dashes_in
sent_texts = tt
