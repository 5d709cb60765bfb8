-- The digest line by line: a line starts with each word before which a line has ended.
use Rattle.std.specs.Prelude.{Bool, false, ◌||◌, List, [], ◌∷◌, ◌++◌, ℕ}
use Rattle.lists.specs.Runs.{joined}
use Rattle.options.specs.Opts.{Opts}
use Rattle.pieces.specs.Pieces.{Piece, Kind, blank_line, plain_line, paragraph, pieces}
use Rattle.records.specs.Word.{Word}
use Rattle.words.specs.Words.{words_of}
use Rattle.output.specs.Emission.{line_feed}
use Rattle.output.specs.EmittedLines.{lines_from}
use Rattle.endings.specs.Endings.{Next, breaks}
use Rattle.paragraphs.specs.Breaks.{setting_of}
use Rattle.explain.specs.Reasons.{lines_by}

-- each with its line feed
abbrev pub fed : List (List ℕ) → List ℕ
fed lines = joined (λ (l : List ℕ). l ++ line_feed) lines

-- the lines of a paragraph (which has a word: the first line is not reached), of a piece, and of the digest
unfoldable pub text_lines : Bool → List ℕ → List ℕ → List Next → List Word → List (List ℕ)
text_lines uniform first indent ns [] = [] ∷ []
text_lines uniform first indent ns (w ∷ ws) = lines_from uniform indent (first ++ w.text) false (breaks ns) ws

unfoldable pub kind_lines : Opts → Kind → List (List ℕ)
kind_lines o blank_line = [] ∷ []
kind_lines o (plain_line line) = line ∷ []
kind_lines o (paragraph p) =
    let g = setting_of o p.mail p.first.columns p.indent.columns in
    text_lines (o.uniform || p.mail) p.first.bytes p.indent.bytes (lines_by (o.quick || p.mail) g (words_of o p)) (words_of o p)

abbrev pub piece_lines : Opts → Piece → List (List ℕ)
piece_lines o q = kind_lines o q.kind

unfoldable pub digest_lines : Opts → List ℕ → List (List ℕ)
digest_lines o notes = joined (piece_lines o) (pieces o notes)
