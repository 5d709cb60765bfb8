-- The working room that the pieces of the notes need where it is lent: numbers of 32 bits, for the longest paragraph.
use Rattle.std.specs.Prelude.{cond, List, [], ◌∷◌, ℕ, ◌*◌, max, length}
use Rattle.options.specs.Opts.{Opts}
use Rattle.pieces.specs.Pieces.{Piece, Kind, blank_line, plain_line, paragraph, pieces}
use Rattle.words.specs.Words.{words_of}

-- a word takes 7 numbers; without quick, 8 more for the break after it
abbrev pub work_of : Opts → Kind → ℕ
work_of o blank_line = 0
work_of o (plain_line line) = 0
work_of o (paragraph p) = cond o.quick 7 15 * length (words_of o p)

-- the greatest that a piece needs; none without a paragraph
unfoldable pub most_work : Opts → List Piece → ℕ
most_work o [] = 0
most_work o (q ∷ qs) = max (work_of o q.kind) (most_work o qs)

unfoldable pub work_for : Opts → List ℕ → ℕ
work_for o notes = most_work o (pieces o notes)
