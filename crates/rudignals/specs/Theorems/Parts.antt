-- Notes cut where a piece begins: the two parts, where the cut may be, and what is answered for the notes from what is answered for the parts.
use Rattle.std.specs.Prelude.{◌≡◌, true, List, ◌++◌, map, ℕ, ◌+◌, max, length, take, drop}
use Rattle.lists.specs.Runs.{joined}
use Rattle.options.specs.Opts.{Opts}
use Rattle.lines.specs.Lines.{lines_of}
use Rattle.pieces.specs.Pieces.{pieces}
use Rattle.pieces.specs.Theorems.NextMail.{next_mail_behind}
use Rattle.walk.specs.Digest.{extent_of}
use Rattle.formatter.specs.Answers.{Answer, done, refused, room}
use Rattle.formatter.specs.Format.{Words, up_to, lent, Finding, found, stopped}
use Rattle.formatter.specs.declared.Refusal.{Refusal}
use Rattle.formatter.specs.declared.Refusal.TheVariants.{Options as Faulty, Long, Text as Damaged, Words as Many, Work}
use Rattle.index.specs.declared.Record.{Record}
use Rattle.indexer.specs.Theorems.Follows.{shifted}
use Rattle.explain.specs.Explain.{Explanation, because, refused as refusedAlso, no_line}

-- the bytes of the first k pieces, and those of the others
abbrev pub up_to_piece : Opts → ℕ → List ℕ → List ℕ
up_to_piece o k notes = joined extent_of (take k (pieces o notes))

abbrev pub from_piece : Opts → ℕ → List ℕ → List ℕ
from_piece o k notes = joined extent_of (drop k (pieces o notes))

-- without mail every piece's start is a cut; with mail those where next-mail is true
abbrev pub MayCut : Opts → ℕ → List ℕ → Type 0
MayCut o k notes = o.mail ≡ true → next_mail_behind true (take k (pieces o notes)) ≡ true

-- where working room is lent: notes need the greater of what their parts need, each paragraph for itself. (A number of words is asked of each.)
abbrev pub ByParts : Words → Type 0
ByParts (up_to most) = Unit {0}
ByParts (lent lends need) = (o : Opts) (first second notes : List ℕ) → pieces o notes ≡ pieces o first ++ pieces o second → need o notes ≡ max (need o first) (need o second)

-- ---- what is answered

-- a place in the second part is so many bytes further on in the notes as the first part is long
abbrev pub moved : ℕ → Refusal → Refusal
moved size (Faulty place) = Faulty place
moved size Long = Long
moved size (Damaged place) = Damaged (size + place)
moved size (Many place) = Many (size + place)
moved size (Work needed) = Work needed

-- the first part has a paragraph of too many words: damage in the second part has the lower number, and wins
abbrev pub behind_words : ℕ → ℕ → Refusal → Refusal
behind_words size place (Faulty fault) = Faulty fault
behind_words size place Long = Long
behind_words size place (Damaged later) = Damaged (size + later)
behind_words size place (Many later) = Many place
-- (one limit does not answer both 4 and 12)
behind_words size place (Work needed) = Many place

-- the first part needs more working room than is lent: the greater room of both, or damage in the second part wins
abbrev pub behind_work : ℕ → ℕ → Refusal → Refusal
behind_work size needed (Faulty fault) = Faulty fault
behind_work size needed Long = Long
behind_work size needed (Damaged later) = Damaged (size + later)
-- (one limit does not answer both 4 and 12)
behind_work size needed (Many later) = Many (size + later)
behind_work size needed (Work more) = Work (max needed more)

-- both are refused
abbrev pub both_refused : ℕ → Refusal → Refusal → Refusal
both_refused size (Faulty place) second = Faulty place
both_refused size Long second = Long
both_refused size (Damaged place) second = Damaged place
both_refused size (Many place) second = behind_words size place second
both_refused size (Work needed) second = behind_work size needed second

-- what is found in the notes
abbrev pub both_found : ℕ → Finding → Finding → Finding
both_found size (found first) (found second) = found (first ++ second)
both_found size (found first) (stopped r) = stopped (moved size r)
both_found size (stopped q) (found second) = stopped q
both_found size (stopped q) (stopped r) = stopped (both_refused size q r)

-- what is answered: `then` is what is answered with the digest of both. (Where the first digest is longer than N can tell, so is that of both.)
abbrev pub both : (List ℕ → Answer) → ℕ → Answer → Answer → Answer
both then size (done first) (done second) = then (first ++ second)
both then size (done first) (refused r) = refused (moved size r)
both then size (done first) (room needed) = room needed
both then size (refused q) (done second) = refused q
both then size (refused q) (refused r) = refused (both_refused size q r)
both then size (refused q) (room needed) = refused q
both then size (room most) (done second) = room most
both then size (room most) (refused r) = refused (moved size r)
both then size (room most) (room needed) = room needed

-- ---- the index, and the reasons

-- the second part's records, moved on after the first part and its digest
abbrev pub behind_first : List ℕ → List ℕ → List Record → List Record
behind_first first digest rs = map (shifted (length first) (length (lines_of digest))) rs

-- a line of the first part has its reason there; a line after them has that of the second part
abbrev pub both_reasons : Explanation → Explanation → Explanation
both_reasons (because e) second = because e
both_reasons (refusedAlso r) second = refusedAlso r
both_reasons (no_line n) (because e) = because e
both_reasons (no_line n) (refusedAlso r) = refusedAlso r
both_reasons (no_line n) (no_line m) = no_line (n + m)
