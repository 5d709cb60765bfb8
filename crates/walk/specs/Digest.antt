-- RULES 9: the defined output. The digest is the pieces' outputs, joined.
use Rattle.std.specs.Prelude.{Bool, true, false, ◌||◌, List, [], ◌∷◌, ◌++◌, ℕ, ◌+◌, ltb, length, Option, Some, None}
use Rattle.lists.specs.Runs.{joined}
use Rattle.options.specs.Opts.{Opts}
use Rattle.lines.specs.Lines.{Line}
use Rattle.pieces.specs.Pieces.{Piece, Kind, blank_line, plain_line, paragraph, Paragraph, pieces}
use Rattle.words.specs.Words.{words_of}
use Rattle.output.specs.Emission.{emit, line_feed}
use Rattle.paragraphs.specs.Breaks.{setting_of, breaks_by}

-- a paragraph emits its words, broken into lines. Mail always counts as quick, too
unfoldable pub formatted : Opts → Paragraph → List ℕ
formatted o p =
    let ws = words_of o p in
    let g = setting_of o p.mail p.first.columns p.indent.columns in
    emit (o.uniform || p.mail) p.first.bytes p.indent.bytes (breaks_by (o.quick || p.mail) g ws) ws

-- a blank line emits an empty line; a plain line is emitted as it is with a line feed
unfoldable pub output_of : Opts → Kind → List ℕ
output_of o blank_line = line_feed
output_of o (plain_line line) = line ++ line_feed
output_of o (paragraph p) = formatted o p

abbrev pub piece_output : Opts → Piece → List ℕ
piece_output o piece = output_of o piece.kind

unfoldable pub digest : Opts → List ℕ → List ℕ
digest o notes = joined (piece_output o) (pieces o notes)

-- ---- a paragraph of over so many words: in RULES 2.2 over 1,024

-- the bytes of the notes that a piece takes
unfoldable pub extent_of : Piece → List ℕ
extent_of piece = joined (λ (l : Line). l.raw) piece.lines

abbrev pub most_words : ℕ
most_words = 1024

abbrev pub too_many : ℕ → Opts → Kind → Bool
too_many most o blank_line = false
too_many most o (plain_line line) = false
too_many most o (paragraph p) = ltb most (length (words_of o p))

-- the start of the first such paragraph's first line
unfoldable pub long_paragraph : ℕ → Opts → ℕ → List Piece → Option ℕ
long_paragraph most o place [] = None
long_paragraph most o place (q ∷ qs) = elim (too_many most o q.kind) [ true ↦ Some place | false ↦ long_paragraph most o (place + length (extent_of q)) qs ]
