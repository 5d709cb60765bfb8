-- RULES 17.1: a digest by mail, as format=flowed. Its lines are those that RULES 9 gives with quick and uniform on; what is
-- said here is how they are sent.
use Rattle.std.specs.Prelude.{Bool, true, false, cond, ◌||◌, List, [], ◌∷◌, ◌++◌, ℕ, ◌+◌, eqb}
use Rattle.lists.specs.Runs.{joined}
use Rattle.options.specs.Opts.{Opts}
use Rattle.pieces.specs.Pieces.{Piece, Kind, blank_line, plain_line, paragraph, Paragraph, pieces}
use Rattle.records.specs.Word.{Word}
use Rattle.words.specs.Words.{words_of}
use Rattle.output.specs.EmittedLines.{lines_from}
use Rattle.paragraphs.specs.Breaks.{setting_of, breaks_by}
use Rattle.unflow.specs.Flowed.{space, cr_lf, stuffing, is_dashes}

-- quick and uniform are on
unfoldable pub mailed : Opts → Opts
mailed o = record o { uniform = true; quick = true }

-- ---- a paragraph's lines, without line ends: words after an indent, and a new line where the breaks say so

-- the output of RULES 9, line by line, with uniform on (proofs/Theorems, `its_lines_are_the_digest's`)
unfoldable pub broken_into : List ℕ → List ℕ → List Bool → List Word → List (List ℕ)
broken_into first indent breaks [] = []
broken_into first indent breaks (w ∷ ws) = lines_from true indent (first ++ w.text) false breaks ws

unfoldable pub paragraph_lines : Opts → Paragraph → List (List ℕ)
paragraph_lines o p =
    let ws = words_of o p in
    broken_into p.first.bytes p.indent.bytes (breaks_by (o.quick || p.mail) (setting_of o p.mail p.first.columns p.indent.columns) ws) ws

-- ---- how they are sent

-- a soft line ends in one space; one that would be `-- ` is written fixed, as `--`
unfoldable pub is_dashed : List ℕ → Bool
is_dashed line = is_dashes (line ++ space ∷ [])

unfoldable pub softened : List ℕ → List ℕ
softened line = cond (is_dashed line) line (line ++ space ∷ [])

-- every line of a paragraph but the last is soft
unfoldable pub all_but_last : List (List ℕ) → List (List ℕ)
all_but_last [] = []
all_but_last (line ∷ []) = line ∷ []
all_but_last (line ∷ next ∷ lines) = softened line ∷ all_but_last (next ∷ lines)

-- how many of them are such a `--`
unfoldable pub dashes_among : List (List ℕ) → ℕ
dashes_among [] = 0
dashes_among (line ∷ []) = 0
dashes_among (line ∷ next ∷ lines) = cond (is_dashed line) 1 0 + dashes_among (next ∷ lines)

-- a plain line loses the spaces at its end, unless it is `-- `
abbrev pub before : ℕ → List ℕ → List ℕ
before x [] = cond (eqb x space) [] (x ∷ [])
before x (y ∷ ys) = x ∷ y ∷ ys

unfoldable pub trimmed : List ℕ → List ℕ
trimmed [] = []
trimmed (x ∷ xs) = before x (trimmed xs)

unfoldable pub plain_sent : List ℕ → List ℕ
plain_sent line = cond (is_dashes line) line (trimmed line)

unfoldable pub sent_lines : Opts → Kind → List (List ℕ)
sent_lines o blank_line = [] ∷ []
sent_lines o (plain_line line) = plain_sent line ∷ []
sent_lines o (paragraph p) = all_but_last (paragraph_lines o p)

-- a space before a line that starts with a space, `>` or `From `; every line ends in CR LF
unfoldable pub sent : List ℕ → List ℕ
sent line = stuffing line ++ (line ++ cr_lf)

unfoldable pub sent_piece : Opts → Piece → List ℕ
sent_piece o piece = joined sent (sent_lines o piece.kind)

unfoldable pub flowed : Opts → List ℕ → List ℕ
flowed o notes = joined (sent_piece o) (pieces o notes)

-- ---- how many `--` were made

abbrev pub piece_dashes : Opts → Kind → ℕ
piece_dashes o blank_line = 0
piece_dashes o (plain_line line) = 0
piece_dashes o (paragraph p) = dashes_among (paragraph_lines o p)

unfoldable pub dashes_in : Opts → List Piece → ℕ
dashes_in o [] = 0
dashes_in o (q ∷ qs) = piece_dashes o q.kind + dashes_in o qs
