-- What the functions of the writer answer for: how a line begins, a paragraph, the pieces from a place of the notes on, and the answer in code.
use Rattle.std.specs.Prelude.{◌≡◌, Bool, true, false, cond, ◌&&◌, ◌||◌, List, ◌++◌, ℕ, ◌+◌, ◌*◌, ◌^◌, ◌≤◌, ◌<◌, length, drop, replicate, Option, Some, None, Result, Ok, Err}
use Rattle.std.proofs.Math.Seq.{slice}
use Rattle.lists.specs.Runs.{joined}
use Rattle.lists.specs.Coded.{numbered, result_coded}
use Rattle.options.specs.Opts.{Opts}
use Rattle.options.specs.OptionBlock.{bit, read_block}
use Rattle.options.specs.declared.Part.{Part}
use Rattle.options.specs.declared.Options.{Options}
use Rattle.options.specs.declared.Fault.{Fault}
use Rattle.pieces.specs.Pieces.{Kind, Piece, pieces}
use Rattle.pieces.specs.declared.Margin.{Margin}
use Rattle.pieces.specs.declared.Paragraph.{Paragraph}
use Rattle.records.specs.declared.Word.{Word as Record}
use Rattle.records.specs.Word.{meaning}
use Rattle.records.specs.Cited.Table.{words_in}
use Rattle.records.specs.Cited.Marks.{marks_in, breaks_of}
use Rattle.output.specs.declared.Layout.{Layout}
use Rattle.output.specs.Cited.Sink.{Wrote}
use Rattle.output.specs.Cited.Writers.{margin_of}
use Rattle.quick.specs.Quick.{quick_breaks}
use Rattle.words.specs.declared.TooMany.{TooMany}
use Rattle.paragraphs.specs.Cited.Steps.{setting_for, words_for}
use Rattle.walk.specs.Digest.{too_many, long_paragraph}
use Rattle.walk.specs.Cited.Course.{Admitted, SoundFrom, pieces_from, long_from, FirstPiece}
use Rattle.walk.specs.declared.Stopped.{Stopped}
use Rattle.formatter.specs.Answers.{Answer, done, refused, room, output_after}
use Rattle.formatter.specs.Format.{Limits, within, answering}
use Rattle.formatter.specs.Cited.Call.{told, unwritten_coded}
use Rattle.formatter.specs.declared.Unwritten.{Unwritten}
use Rattle.unflow.specs.Flowed.{stuffing}
use Rattle.flow.specs.Flow.{is_dashed, sent, sent_lines, flowed, piece_dashes, dashes_in}
use Rattle.flow.specs.Answers.{is_given, unfit, sent_in, flow, dashes_of}
use Rattle.flow.specs.Cited.Words.{space_if, next_sent, next_dashed, rest_sent, rest_dashes, words_sent, words_dashes}
use Rattle.flow.specs.declared.Sent.{Sent}
use Rattle.flow.specs.declared.Cursor.{Cursor}
use Rattle.flow.specs.declared.Opening.{Opening}
use Rattle.flow.specs.declared.Turn.{Turn}

-- ---- the options

-- the block is well formed, and the writer does not take it
abbrev pub refused_as : List ℕ → Result Options Fault → Bool
refused_as block (Err f) = false
refused_as block (Ok o) = unfit block

unfoldable pub refused_for : List ℕ → Bool
refused_for block = refused_as block (read_block block)

-- by its flags and its prefix
abbrev pub shaped : ℕ → Option Part → Bool
shaped flags prefix = bit 0 flags || bit 1 flags || bit 2 flags || is_given prefix

-- quick and uniform are on
abbrev pub switched : Options → Options
switched o = record o { uniform = true; quick = true }

-- the options of an accepted block with these on, and notes within the limit
pub record Ready (block notes : List ℕ) (m : Options) : Type 0 where
  pub read : Options
  pub admitted : Admitted block notes read
  pub is : m ≡ switched read

-- ---- a line's beginning

pub record Opens (more : Bool) (line : List ℕ) (r : Opening) : Type 0 where
  pub spaces : replicate r.spaces 32 ≡ stuffing (line ++ space_if more)
  pub few : r.spaces ≤ 1
  pub dashed : r.dashed ≡ is_dashed line

-- ---- a paragraph, of which n words are in a table, with marks

-- a word was written after those before it
pub record Turned (notes : List ℕ) (w : Record) (fresh : Bool) (added : ℕ) (indent : Margin) (more : Bool) (t : Turn) (out out' : List ℕ) (r : Turn) : Type 0 where
  pub wrote : Wrote out t.at (next_sent fresh added t.dashed (margin_of notes indent) more (meaning notes w)) out' r.at
  pub dashed : r.dashed ≡ next_dashed fresh (margin_of notes indent) (meaning notes w)
  pub dashes : r.dashes ≡ t.dashes + cond (fresh && t.dashed) 1 0
  pub few : r.at ≤ t.at + 2 ^ 34

-- the words from i on
abbrev pub sent_from : List ℕ → List ℕ → ℕ → Margin → Bool → Bool → ℕ → List ℕ
sent_from notes table n indent dashed punct i = rest_sent (margin_of notes indent) dashed punct (slice i n (marks_in n table)) (drop i (words_in notes n table))

abbrev pub dashes_from : List ℕ → List ℕ → ℕ → Margin → Bool → ℕ → ℕ
dashes_from notes table n indent dashed i = rest_dashes (margin_of notes indent) dashed (slice i n (marks_in n table)) (drop i (words_in notes n table))

pub record RestSent (notes table : List ℕ) (n : ℕ) (indent : Margin) (out : List ℕ) (t : Turn) (out' : List ℕ) (r : Turn) : Type 0 where
  pub wrote : Wrote out t.at (sent_from notes table n indent t.dashed false 1) out' r.at
  pub dashes : r.dashes ≡ dashes_from notes table n indent t.dashed 1
  pub few : r.dashes ≤ n

-- all of them
pub record ParagraphSent (notes table : List ℕ) (n : ℕ) (l : Layout) (out : List ℕ) (at : ℕ) (out' : List ℕ) (r : Turn) : Type 0 where
  pub wrote : Wrote out at (words_sent (margin_of notes l.first) (margin_of notes l.indent) (breaks_of n table) (words_in notes n table)) out' r.at
  pub dashes : r.dashes ≡ words_dashes (margin_of notes l.first) (margin_of notes l.indent) (breaks_of n table) (words_in notes n table)
  pub few : r.dashes ≤ n

-- a paragraph in places was written, or has too many words, and then the output is as it was
pub record TextSent (most : ℕ) (notes : List ℕ) (c : Cursor) (o : Options) (p : Paragraph) (out out' : List ℕ) (d : Cursor) (block : List ℕ) : Type 0 where
  pub few : length (words_for block notes c.at o p) ≤ most
  pub next : d.at ≡ p.next
  pub mail : d.mail ≡ p.mail
  pub wrote : Wrote out c.written
      (words_sent (margin_of notes p.first) (margin_of notes p.indent) (quick_breaks (setting_for block o p) (words_for block notes c.at o p)) (words_for block notes c.at o p))
      out' d.written
  pub dashes : d.dashes ≡ c.dashes + words_dashes (margin_of notes p.first) (margin_of notes p.indent) (quick_breaks (setting_for block o p) (words_for block notes c.at o p)) (words_for block notes c.at o p)

abbrev pub TextStepped : ℕ → List ℕ → Cursor → Options → Paragraph → List ℕ → List ℕ → Result Cursor TooMany → List ℕ → Type 0
TextStepped most notes c o p out out' (Ok d) block = TextSent most notes c o p out out' d block
TextStepped most notes c o p out out' (Err t) block = (most < length (words_for block notes c.at o p)) × (out' ≡ out)

-- ---- the pieces from a place on

unfoldable pub flowed_from : Opts → Bool → List ℕ → ℕ → List ℕ
flowed_from o nextMail notes at = joined (λ (q : Piece). joined sent (sent_lines o q.kind)) (pieces_from o nextMail notes at)

unfoldable pub dashes_for : Opts → Bool → List ℕ → ℕ → ℕ
dashes_for o nextMail notes at = dashes_in o (pieces_from o nextMail notes at)

-- a place within the notes; no byte of them makes more than three times what it may of the digest, nor more lines `--`
abbrev pub most_sent_per_byte : ℕ
most_sent_per_byte = 6291456

pub record CursorIn (notes : List ℕ) (c : Cursor) : Type 0 where
  pub within : c.at ≤ length notes
  pub bounded : c.written ≤ most_sent_per_byte * c.at
  pub few : c.dashes ≤ most_sent_per_byte * c.at
  pub sound : SoundFrom notes c.at

-- a piece was written, and the work goes on after it
pub record Put (most : ℕ) (o : Opts) (notes out : List ℕ) (c d : Cursor) (out' : List ℕ) : Type 0 where
  pub kind : Kind
  pub goes : FirstPiece o c.mail notes c.at kind d.mail d.at
  pub few : too_many most o kind ≡ false
  pub wrote : Wrote out c.written (joined sent (sent_lines o kind)) out' d.written
  pub dashes : d.dashes ≡ c.dashes + piece_dashes o kind
  pub bounded : d.written + most_sent_per_byte * c.at ≤ c.written + most_sent_per_byte * d.at
  pub counted : d.dashes + most_sent_per_byte * c.at ≤ c.dashes + most_sent_per_byte * d.at

abbrev pub PieceStepped : ℕ → Opts → List ℕ → List ℕ → Cursor → List ℕ → Result Cursor TooMany → Type 0
PieceStepped most o notes out c out' (Ok d) = Put most o notes out c d out'
PieceStepped most o notes out c out' (Err t) = (long_from most o c.mail notes c.at ≡ Some c.at) × (out' ≡ out)

-- all were written; or the work stopped at a paragraph of too many words
abbrev pub Finished : ℕ → Opts → List ℕ → List ℕ → List ℕ → Result Sent Stopped → Type 0
Finished most o notes out out' (Ok s) =
    (long_paragraph most o 0 (pieces o notes) ≡ None) × Wrote out 0 (flowed o notes) out' s.written × (s.dashes ≡ dashes_in o (pieces o notes)) × (s.written ≤ most_sent_per_byte * length notes)
Finished most o notes out out' (Err s) = (long_paragraph most o 0 (pieces o notes) ≡ Some s.at) × (length out' ≡ length out) × (s.at ≤ length notes)

-- ---- the answer in code: without the bytes, which are in the output

-- the reply of a writing call: the length of what is sent, or the refusal
abbrev pub reply_of : Result Sent Unwritten → Result ℕ Unwritten
reply_of (Ok s) = Ok s.written
reply_of (Err u) = Err u

-- and the count of lines `--` that is told, which is 0 on a refusal
abbrev pub dashes_told : Result Sent Unwritten → ℕ
dashes_told (Ok s) = s.dashes
dashes_told (Err u) = 0

pub record Sends (a : Answer) (dashes : ℕ) (out : List ℕ) (r : Result Sent Unwritten) (out' : List ℕ) : Type 0 where
  pub is : reply_of r ≡ told a
  pub output : out' ≡ output_after a out
  pub counts : dashes_told r ≡ dashes
  pub small : numbered (result_coded unwritten_coded (reply_of r)) < 2 ^ 64

-- what is left to be told where codes 1 to 3 are not due
abbrev pub left_of : Limits → Opts → List ℕ → ℕ → Answer
left_of l o notes space = answering (λ d. sent_in l.words space (flowed o notes)) (within l.words o notes)

-- the count of lines `--`, which is 0 on a refusal
abbrev pub if_done : Answer → ℕ → ℕ
if_done (done bytes) n = n
if_done (refused r) n = 0
if_done (room needed) n = 0

abbrev pub left_dashes : Limits → Opts → List ℕ → ℕ → ℕ
left_dashes l o notes space = if_done (left_of l o notes space) (dashes_in o (pieces o notes))

-- what the functions of the call leave after: for a block and notes; for options that are taken, where codes 1 to 3 are not due; and where there
-- is room for every paragraph
abbrev pub Flows : Limits → List ℕ → List ℕ → List ℕ → Result Sent Unwritten → List ℕ → Type 0
Flows l block notes out r out' = Sends (flow l block notes (length out)) (dashes_of l block notes (length out)) out r out'

abbrev pub FlowsLeft : Limits → Opts → List ℕ → List ℕ → Result Sent Unwritten → List ℕ → Type 0
FlowsLeft l o notes out r out' = Sends (left_of l o notes (length out)) (left_dashes l o notes (length out)) out r out'

abbrev pub FlowsAll : Limits → Opts → List ℕ → List ℕ → Result Sent Unwritten → List ℕ → Type 0
FlowsAll l o notes out r out' = let a = sent_in l.words (length out) (flowed o notes) in Sends a (if_done a (dashes_in o (pieces o notes))) out r out'
