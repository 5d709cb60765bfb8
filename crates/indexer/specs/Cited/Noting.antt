-- What the functions of the indexed call answer for: what is spelled of the pieces, the records that are read from it, and the code's
-- answer.
use Rattle.std.specs.Prelude.{◌≡◌, true, false, cond, List, [], ◌∷◌, ℕ, ◌+◌, ◌-◌, ◌*◌, ◌≤◌, ◌<◌, ltb, length, take, drop, get_or, set, Some, None, Result, Ok, Err}
use Rattle.lists.specs.Coded.{Coded, coded, numbered}
use Rattle.options.specs.Opts.{Opts}
use Rattle.lines.specs.Lines.{lines_of}
use Rattle.lines.specs.Cited.Places.{most_large}
use Rattle.pieces.specs.Pieces.{Piece, pieces}
use Rattle.words.specs.declared.TooMany.{TooMany}
use Rattle.output.specs.Cited.Sink.{Wrote}
use Rattle.paragraphs.specs.declared.Cursor.{Cursor}
use Rattle.walk.specs.Digest.{digest, extent_of, long_paragraph}
use Rattle.walk.specs.Cited.Course.{long_from, Put}
use Rattle.walk.specs.declared.Stopped.{Stopped}
use Rattle.formatter.specs.Answers.{refusal_coded}
use Rattle.formatter.specs.Format.{Words as WordLimit, lent, Limits, with_words, within, most_told}
use Rattle.formatter.specs.declared.Refusal.TheVariants.{Words}
use Rattle.marks.specs.Cited.Marks.{marks_in}
use Rattle.index.specs.declared.Record.{Record}
use Rattle.index.specs.Cited.Lists.{no_record}
use Rattle.index.specs.Cited.Reading.{front, read_from}
use Rattle.indexer.specs.Index.{line_count, index_of}
use Rattle.indexer.specs.Answers.{Indexed, done, refused, full, room, index_coded, index_output_after, filled_after}
use Rattle.indexer.specs.Indexing.{in_index}
use Rattle.indexer.specs.declared.Told.{Told}
use Rattle.indexer.specs.declared.Filled.{Filled}
use Rattle.indexer.specs.declared.Unfilled.{Unfilled}
use Rattle.indexer.specs.declared.Unfilled.TheVariants.{Refused, Full, Room}
use Rattle.indexer.specs.declared.Pieces.{Pieces}

-- ---- a piece: written, or a paragraph of too many words, and then the output is as it was

abbrev pub PieceStepped : ℕ → Opts → List ℕ → List ℕ → Cursor → List ℕ → Result Cursor TooMany → Type 0
PieceStepped most o notes out c out' (Ok d) = Put most o notes out c d out'
PieceStepped most o notes out c out' (Err t) = (long_from most o c.mail notes c.at ≡ Some c.at) × (out' ≡ out)

-- ---- the gaps that are spelled: of each piece its length in the notes and its count of output lines

unfoldable pub gaps_of : Opts → List Piece → List ℕ
gaps_of o [] = []
gaps_of o (q ∷ qs) = length (extent_of q) ∷ line_count o q ∷ gaps_of o qs

-- the count of lines that was written between two cursors
abbrev pub lines_put : List ℕ → Cursor → Cursor → ℕ
lines_put out c d = length (lines_of (take (d.written - c.written) (drop c.written out)))

-- the room that is lent: its first numbers are for marks, two for each byte of the notes; what is after them up to an end, for words
pub record Parted (notes : List ℕ) (marks end : ℕ) (work : List ℕ) : Type 0 where
  pub enough : 2 * length notes ≤ 32 * marks
  pub few : marks ≤ 65536
  pub order : marks ≤ end
  pub within : end ≤ length work

-- before a piece is spelled: where its output fits, neither of its two places is marked
pub record Spells (gaps out : List ℕ) (c d : Cursor) (line : ℕ) : Type 0 where
  pub on : c.at < d.at
  pub within : d.at ≤ most_large
  pub few : line ≤ c.at
  pub behind : c.written ≤ d.written
  pub lines : d.written ≤ length out → lines_put out c d ≤ d.at
  pub first : d.written ≤ length out → get_or (marks_in gaps) (d.at + line - 1) true ≡ false
  pub second : d.written ≤ length out → get_or (set (marks_in gaps) (d.at + line - 1) true) (d.at + line + lines_put out c d - 1) true ≡ false

-- and then: both are, and the line is after the piece; where its output does not fit, the line stays
pub record Spelt (gaps out : List ℕ) (c d : Cursor) (line : ℕ) (gaps' : List ℕ) (r : ℕ) : Type 0 where
  pub stays : length out < d.written → r ≡ line
  pub moves : d.written ≤ length out → r ≡ line + lines_put out c d
  pub marked : d.written ≤ length out → marks_in gaps' ≡ set (set (marks_in gaps) (d.at + line - 1) true) (d.at + line + lines_put out c d - 1) true

-- all pieces were written, and if they fit, the gaps tell their records; or the work stopped at a paragraph of too many words
abbrev pub Noted : ℕ → Opts → List ℕ → List ℕ → List ℕ → List ℕ → Result Pieces Stopped → Type 0
Noted most o notes out out' work' (Ok p) =
    (long_paragraph most o 0 (pieces o notes) ≡ None) × Wrote out 0 (digest o notes) out' p.written × (p.pieces ≡ length (index_of o notes))
    × (p.written ≤ length out → read_from (marks_in (front work')) p.pieces no_record ≡ index_of o notes)
Noted most o notes out out' work' (Err s) = (long_paragraph most o 0 (pieces o notes) ≡ Some s.at) × (length out' ≡ length out)

-- ---- the answer in code: without the digest's bytes, which are in the output, and the records, which the gaps tell

abbrev pub told : Indexed → Result Filled Unfilled
told (done digest index) = Ok (record { written = length digest; records = length index })
told (refused r) = Err (Refused r)
told (full pieces) = Err (Full pieces)
told (room needed) = Err (Room needed)

-- what the pieces come to where there is room for so many records and bytes
abbrev pub fitted : Result Pieces Stopped → ℕ → ℕ → Result Filled Unfilled
fitted (Err s) records space = Err (Refused (Words s.at))
fitted (Ok p) records space =
    cond (ltb records p.pieces) (Err (Full p.pieces))
    (cond (ltb most_told p.written) (Err (Room most_told))
    (cond (ltb space p.written) (Err (Room p.written)) (Ok (record { written = p.written; records = p.pieces }))))

-- its code and N, and its count of filled records
abbrev pub unfilled_coded : Unfilled → Coded
unfilled_coded (Refused r) = refusal_coded r
unfilled_coded (Full pieces) = coded 6 pieces
unfilled_coded (Room needed) = coded 5 needed

abbrev pub filled_coded : Result Filled Unfilled → Coded
filled_coded (Ok f) = coded 0 f.written
filled_coded (Err u) = unfilled_coded u

abbrev pub told_filled : Result Filled Unfilled → ℕ
told_filled (Ok f) = f.records
told_filled (Err u) = 0

-- the records of an answer: none on a refusal
abbrev pub records_of : Indexed → List Record
records_of (done digest index) = index
records_of (refused r) = []
records_of (full pieces) = []
records_of (room needed) = []

-- what a function that gives the answer leaves after
pub record Indexes (a : Indexed) (out : List ℕ) (r : Result Filled Unfilled) (out' work' : List ℕ) : Type 0 where
  pub is : r ≡ told a
  pub output : out' ≡ index_output_after a out
  pub read : read_from (marks_in (front work')) (filled_after a) no_record ≡ records_of a

-- what the call leaves after, and tells
pub record Marked (a : Indexed) (records : ℕ) (out out' : List ℕ) (filled' : ℕ) (work' : List ℕ) (t : Told) : Type 0 where
  pub answer : t.answer ≡ numbered (index_coded a)
  pub output : out' ≡ index_output_after a out
  pub filled : filled' ≡ filled_after a
  pub count : t.records ≡ filled_after a
  pub few : t.records ≤ records
  pub read : read_from (marks_in (front work')) t.records no_record ≡ records_of a

-- what is left to be told where none of codes 1 to 3 is due
abbrev pub left_of : Limits → Opts → List ℕ → ℕ → ℕ → Indexed
left_of l o notes space records = in_index l.words space records (index_of o notes) (within l.words o notes)

-- and of the pieces: the place of the first paragraph of over so many words; or what is told of the digest, if N has room for its length
abbrev pub numbering : WordLimit
numbering = lent 0 (λ o notes. 0)

abbrev pub found_of : ℕ → Opts → List ℕ → ℕ → ℕ → Indexed
found_of most o notes space records = in_index numbering space records (index_of o notes) (with_words o notes (long_paragraph most o 0 (pieces o notes)))
