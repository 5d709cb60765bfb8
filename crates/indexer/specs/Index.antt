-- RULES 12.1: the index kept beside the output: for each paragraph, plain line and blank line one record with its place and length in
-- the notes, its first output line and its count of output lines.
use Rattle.std.specs.Prelude.{List, [], ◌∷◌, ℕ, ◌+◌, length}
use Rattle.options.specs.Opts.{Opts}
use Rattle.lines.specs.Lines.{lines_of}
use Rattle.pieces.specs.Pieces.{Piece, pieces}
use Rattle.walk.specs.Digest.{piece_output, extent_of}
use Rattle.index.specs.declared.Record.{Record}

-- the lines of a piece's output
unfoldable pub line_count : Opts → Piece → ℕ
line_count o q = length (lines_of (piece_output o q))

-- the records of pieces that begin at a place of the notes and at an output line
unfoldable pub records_from : Opts → ℕ → ℕ → List Piece → List Record
records_from o place line [] = []
records_from o place line (q ∷ qs) =
    record { place = place; length = length (extent_of q); first = line; count = line_count o q }
    ∷ records_from o (place + length (extent_of q)) (line + line_count o q) qs

unfoldable pub index_of : Opts → List ℕ → List Record
index_of o notes = records_from o 0 0 (pieces o notes)
