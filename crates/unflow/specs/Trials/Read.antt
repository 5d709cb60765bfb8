-- The examples of RFC 3676, section 4, and the readings of the reader of RULES 17.2: one table and one statement.
use Rattle.std.specs.Prelude.{Bool, List, [], ◌∷◌, T}
use Prim.Native.String.{String}
use Rattle.lists.specs.Walk.{walk_up_to, walk, piece, each}
use Rattle.lists.specs.Runs.{while, behind, every, begins, joined}
use Rattle.lists.specs.Trials.Bytes.{bytes, same}
use Rattle.lines.specs.Lines.{body, without_return, first_line, lines_of}
use Rattle.pieces.specs.Pieces.{from_word}
use Rattle.unflow.specs.Flowed.{quote_depth, needs_space, stuffing, unstuffed, content_of, is_dashes, is_separator, ends_in_space, is_soft}
use Rattle.unflow.specs.Unflow.{goes_on_in, paragraphs_from, paragraphs, as_line, mail_lines, unflowed}

pub record Row : Type 0 where
  pub text : String
  pub read : String

abbrev pub row : String → String → Row
row t r = record { text = t; read = r }

abbrev pub right : Row → Bool
right r = same (unflowed (bytes r.text)) (bytes r.read)

abbrev pub table : List Row
table =
    row "" ""
    -- soft lines are joined, and keep their spaces; a line without a line feed counts
    ∷ row "a \r\nb \nc" "a b c\r\n"
    ∷ row "a\r\nb\r\n" "a\r\nb\r\n"
    -- 4.5: the same depth and content; another
    ∷ row ">> Exit\r\n>>Exit\r\n> > Exit\r\n" ">>Exit\r\n>>Exit\r\n> > Exit\r\n"
    -- another depth ends a paragraph
    ∷ row ">a \r\nb\r\n" ">a \r\nb\r\n"
    ∷ row ">a \r\n> b\r\n" ">a b\r\n"
    -- 4.4: stuffing goes, and comes where it is needed
    ∷ row " a\r\n  b\r\n >c\r\n From d\r\n" "a\r\n  b\r\n >c\r\n From d\r\n"
    ∷ row ">From x\r\nFrom y\r\nFrom\r\n" "> From x\r\n From y\r\nFrom\r\n"
    -- 4.3: the separator is fixed, and ends a soft line before it; stuffed it is one after quote marks alone
    ∷ row "-- \r\na\r\n" "-- \r\na\r\n"
    ∷ row "a \r\n-- \r\nb\r\n" "a \r\n-- \r\nb\r\n"
    ∷ row ">-- \r\n>a\r\n> -- \r\n>b\r\n" ">-- \r\n>a\r\n>-- \r\n>b\r\n"
    ∷ row " -- \r\na\r\n" "-- a\r\n"
    -- a soft line and an empty line of the same depth are one paragraph; a line of spaces is soft
    ∷ row "a \r\n\r\nb\r\n" "a \r\nb\r\n"
    ∷ row "  \r\nb\r\n" "  b\r\n"
    -- the end of the text ends a paragraph; a carriage return that stays is no space
    ∷ row "a " "a \r\n"
    ∷ row "a \r" "a \r\r\n"
    ∷ []

pub read_texts : T (every right table)
unfolding walk_up_to walk piece each while behind every begins joined body without_return first_line lines_of from_word quote_depth needs_space stuffing unstuffed content_of is_dashes is_separator ends_in_space is_soft goes_on_in paragraphs_from paragraphs as_line mail_lines unflowed
read_texts = tt
