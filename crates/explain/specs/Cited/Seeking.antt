-- What the functions of the search answer for: the lines of the pieces from a place of the notes on, and the line that is asked for.
use Rattle.std.specs.Prelude.{◌≡◌, Bool, true, false, ◌||◌, List, ℕ, ◌-◌, ◌≤◌, ◌<◌, length, Option, Some, None, Result, Ok, Err}
use Rattle.lists.specs.Runs.{joined}
use Rattle.lists.specs.Coded.{Coded, coded}
use Rattle.options.specs.Opts.{Opts}
use Rattle.options.specs.declared.Options.{Options}
use Rattle.pieces.specs.Pieces.{Kind, Paragraph, paragraph}
use Rattle.pieces.specs.declared.Paragraph.{Paragraph as ParagraphAt}
use Rattle.words.specs.Words.{words_of}
use Rattle.words.specs.declared.TooMany.{TooMany}
use Rattle.endings.specs.declared.Ending.{Ending}
use Rattle.endings.specs.Endings.{numbers_of, endings}
use Rattle.paragraphs.specs.Cited.Steps.{setting_for, words_for}
use Rattle.walk.specs.Digest.{too_many, long_paragraph}
use Rattle.walk.specs.Cited.Course.{pieces_from, FirstPiece}
use Rattle.walk.specs.declared.Stopped.{Stopped}
use Rattle.formatter.specs.Answers.{refusal_coded}
use Rattle.formatter.specs.Format.{Limits, within}
use Rattle.explain.specs.declared.Asked.{Asked}
use Rattle.explain.specs.declared.Asked.TheVariants.{Told, Behind as Ahead}
use Rattle.explain.specs.declared.Seek.{Seek}
use Rattle.explain.specs.declared.Short.{Short}
use Rattle.explain.specs.declared.Unexplained.{Unexplained}
use Rattle.explain.specs.declared.Unexplained.TheVariants.{Refused, NoLine}
use Rattle.explain.specs.Reasons.{lines_by, piece_endings, endings_of, line_endings}
use Rattle.explain.specs.Explain.{Explanation, because, refused, no_line, look_up, after_measuring}
use Rattle.explain.specs.Cited.Asking.{passed}

-- ---- a paragraph in places

-- it is passed: there is room for its words
pub record TextBehind (room : ℕ) (notes : List ℕ) (at : ℕ) (o : Options) (p : ParagraphAt) (a : Asked) (s : Seek) (block : List ℕ) : Type 0 where
  pub few : length (words_for block notes at o p) ≤ room
  pub next : s.at ≡ p.next
  pub mail : s.mail ≡ p.mail
  pub asked : s.asked ≡ passed (endings (lines_by (o.quick || p.mail) (setting_for block o p) (words_for block notes at o p))) a

-- or it has more words than there is room for
abbrev pub TextPassed : ℕ → List ℕ → ℕ → Options → ParagraphAt → Asked → Result Seek TooMany → List ℕ → Type 0
TextPassed room notes at o p a (Ok s) block = TextBehind room notes at o p a s block
TextPassed room notes at o p a (Err t) block = room < length (words_for block notes at o p)

-- ---- a piece

-- the search goes on after it
pub record PieceBehind (room : ℕ) (o : Opts) (notes : List ℕ) (s t : Seek) : Type 0 where
  pub kind : Kind
  pub goes : FirstPiece o s.mail notes s.at kind t.mail t.at
  pub few : too_many room o kind ≡ false
  pub asked : t.asked ≡ passed (endings_of o kind) s.asked

-- or there is not enough room for it
pub record NoRoom (room : ℕ) (o : Opts) (notes : List ℕ) (s : Seek) : Type 0 where
  pub text : Paragraph
  pub state : Bool
  pub next : ℕ
  pub goes : FirstPiece o s.mail notes s.at (paragraph text) state next
  pub many : room < length (words_of o text)

abbrev pub PiecePassed : ℕ → Opts → List ℕ → Seek → Result Seek TooMany → Type 0
PiecePassed room o notes s (Ok t) = PieceBehind room o notes s t
PiecePassed room o notes s (Err t) = NoRoom room o notes s

-- ---- the notes

-- where the search for a line begins
abbrev pub begin : ℕ → Seek
begin line = record { at = 0; mail = true; asked = Ahead line }

-- the lines from a place on, each with the way it ended
unfoldable pub endings_from : Opts → Bool → List ℕ → ℕ → List Ending
endings_from o nextMail notes at = joined (piece_endings o) (pieces_from o nextMail notes at)

-- after all lines from where the search stands
abbrev pub passed_all : Opts → List ℕ → Seek → Asked
passed_all o notes s = passed (endings_from o s.mail notes s.at) s.asked

-- the first paragraph of over so many words from there on
abbrev pub long_behind : ℕ → Opts → List ℕ → Seek → Option ℕ
long_behind most o notes s = long_paragraph most o s.at (pieces_from o s.mail notes s.at)

-- the search has gone on from s to t
pub record Seeking (most : ℕ) (o : Opts) (notes : List ℕ) (s t : Seek) : Type 0 where
  pub within : t.at ≤ length notes
  pub asked : passed_all o notes t ≡ passed_all o notes s
  pub long : long_behind most o notes t ≡ long_behind most o notes s

abbrev pub SoughtIs : ℕ → Opts → List ℕ → Seek → Result Asked Stopped → Type 0
SoughtIs most o notes s (Ok a) = (long_behind most o notes s ≡ None) × (a ≡ passed_all o notes s)
SoughtIs most o notes s (Err t) = long_behind most o notes s ≡ Some t.at

-- so far as the room reaches; what counts as too many words is no less
abbrev pub CoursedUnder : ℕ → ℕ → Opts → List ℕ → Seek → Result Asked Short → Type 0
CoursedUnder most room o notes s (Ok a) = SoughtIs most o notes s (Ok a)
CoursedUnder most room o notes s (Err t) = Seeking most o notes s t.seek × NoRoom room o notes t.seek

abbrev pub Coursed : ℕ → Opts → List ℕ → Seek → Result Asked Short → Type 0
Coursed room o notes s r = (most : ℕ) → room ≤ most → CoursedUnder most room o notes s r

-- ---- the answer in code

-- how many lines it is still after
abbrev pub lines_ahead : Asked → ℕ
lines_ahead (Told e) = 0
lines_ahead (Ahead left) = left

abbrev pub asking : ℕ → Asked → Explanation
asking line (Told e) = because e
asking line (Ahead left) = no_line (line - left)

abbrev pub told : Explanation → Result Ending Unexplained
told (because e) = Ok e
told (refused r) = Err (Refused r)
told (no_line lines) = Err (NoLine lines)

-- its code and N, and the reason that it leaves
abbrev pub unexplained_coded : Unexplained → Coded
unexplained_coded (Refused r) = refusal_coded r
unexplained_coded (NoLine lines) = coded 8 lines

abbrev pub explained_coded : Result Ending Unexplained → Coded
explained_coded (Ok e) = coded 0 0
explained_coded (Err u) = unexplained_coded u

abbrev pub told_reason : Result Ending Unexplained → List ℕ → List ℕ
told_reason (Ok e) reason = numbers_of e
told_reason (Err u) reason = reason

-- what is left to be told after codes 1 to 3
abbrev pub left_of : Limits → Opts → List ℕ → ℕ → Explanation
left_of l o notes line = after_measuring (look_up line (line_endings o notes)) (within l.words o notes)
