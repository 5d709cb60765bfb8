-- What the functions of the walk answer for: the pieces from a place of the notes on, and what has become of them and of the output.
use Rattle.std.specs.Prelude.{◌≡◌, Bool, true, false, List, ◌∷◌, ℕ, ◌+◌, ◌*◌, ◌≤◌, ◌<◌, length, drop, replicate, Option, Some, None, Result, Ok, Err}
use Rattle.lists.specs.Runs.{joined}
use Rattle.lists.specs.Walk.{walk}
use Rattle.text.specs.Characters.{damage}
use Rattle.options.specs.Opts.{Opts, meant}
use Rattle.options.specs.OptionBlock.{read_block}
use Rattle.options.specs.declared.Options.{Options}
use Rattle.lines.specs.Lines.{lines_of}
use Rattle.lines.specs.Cited.Places.{most_large, LinesSound}
use Rattle.pieces.specs.Pieces.{Piece, Kind, next_piece, pieces}
use Rattle.pieces.specs.Cited.Places.{piece_at}
use Rattle.pieces.specs.Cited.Bounds.{Bounded}
use Rattle.pieces.specs.declared.Paragraph.{Paragraph}
use Rattle.pieces.specs.declared.Piece.TheVariants.{Text as TextAt}
use Rattle.output.specs.Cited.Sink.{Wrote, Left}
use Rattle.paragraphs.specs.declared.Cursor.{Cursor}
use Rattle.walk.specs.Digest.{output_of, piece_output, digest, extent_of, too_many, long_paragraph}
use Rattle.walk.specs.declared.Stopped.{Stopped}

-- the options of an accepted block, and notes within the limit, without a damaged character unless such are kept
pub record Admitted (block notes : List ℕ) (o : Options) : Type 0 where
  pub accepted : read_block block ≡ Ok o
  pub short : length notes ≤ most_large
  pub sound : o.keep ≡ false → damage notes ≡ None

-- ---- pieces

-- the pieces from a place on
unfoldable pub pieces_from : Opts → Bool → List ℕ → ℕ → List Piece
pieces_from o nextMail notes at = walk (next_piece o) nextMail (lines_of (drop at notes))

-- their output, and the first of them that has too many words
unfoldable pub output_from : Opts → Bool → List ℕ → ℕ → List ℕ
output_from o nextMail notes at = joined (piece_output o) (pieces_from o nextMail notes at)

unfoldable pub long_from : ℕ → Opts → Bool → List ℕ → ℕ → Option ℕ
long_from most o nextMail notes at = long_paragraph most o at (pieces_from o nextMail notes at)

-- the first of them is of a kind and stands from at up to next; the others stand after it
pub record FirstPiece (o : Opts) (nextMail : Bool) (notes : List ℕ) (at : ℕ) (kind : Kind) (state : Bool) (next : ℕ) : Type 0 where
  pub piece : Piece
  pub is : piece.kind ≡ kind
  pub pieces : pieces_from o nextMail notes at ≡ piece ∷ pieces_from o state notes next
  pub extent : at + length (extent_of piece) ≡ next
  pub on : at < next
  pub within : next ≤ length notes

-- no byte of the notes makes more than so many of the digest, however many words a paragraph has: each word of a paragraph of n bytes has at
-- most n bytes and six before it, and there are no more words than bytes
abbrev pub most_per_byte : ℕ
most_per_byte = 2097152

-- a piece was written, and the work goes on after it
pub record Put (most : ℕ) (o : Opts) (notes out : List ℕ) (c d : Cursor) (out' : List ℕ) : Type 0 where
  pub kind : Kind
  pub goes : FirstPiece o c.mail notes c.at kind d.mail d.at
  pub few : too_many most o kind ≡ false
  pub wrote : Wrote out c.written (output_of o kind) out' d.written
  pub bounded : d.written + most_per_byte * c.at ≤ c.written + most_per_byte * d.at

-- a paragraph has too many words, and the output is as it was
pub record TooLong (most : ℕ) (o : Opts) (notes out : List ℕ) (c : Cursor) (out' : List ℕ) : Type 0 where
  pub kind : Kind
  pub state : Bool
  pub next : ℕ
  pub goes : FirstPiece o c.mail notes c.at kind state next
  pub many : too_many most o kind ≡ true
  pub same : out' ≡ out

-- ---- the notes

-- a line begins there: where the notes have no damaged character, the lines from there on have none
abbrev pub SoundFrom : List ℕ → ℕ → Type 0
SoundFrom notes at = damage notes ≡ None → LinesSound (lines_of (drop at notes))

-- a place within the notes, and what was written up to there
pub record CursorIn (notes : List ℕ) (c : Cursor) : Type 0 where
  pub within : c.at ≤ length notes
  pub bounded : c.written ≤ most_per_byte * c.at
  pub sound : SoundFrom notes c.at

-- the paragraph that `next_piece` finds at a place
pub record TextAhead (block : List ℕ) (o : Options) (notes : List ℕ) (c : Cursor) (p : Paragraph) : Type 0 where
  pub within : c.at < length notes
  pub is : TextAt p ≡ piece_at (meant block o) c.mail notes c.at
  pub bounds : Bounded o.glue notes c.at (TextAt p)

-- what the cursor and the output have come to, from the cursor c₀ and out₀ on
pub record Going (most : ℕ) (o : Opts) (notes : List ℕ) (c₀ : Cursor) (out₀ : List ℕ) (c : Cursor) (out : List ℕ) : Type 0 where
  pub stands : CursorIn notes c
  pub left : Left out₀ c₀.written (output_from o c₀.mail notes c₀.at) out c.written (output_from o c.mail notes c.at)
  pub long : long_from most o c.mail notes c.at ≡ long_from most o c₀.mail notes c₀.at

-- all pieces from a place on were written; or the work stopped at a paragraph of too many words
abbrev pub FinishedFrom : ℕ → Opts → List ℕ → Cursor → List ℕ → List ℕ → Result ℕ Stopped → Type 0
FinishedFrom most o notes c out out' (Ok n) = (long_from most o c.mail notes c.at ≡ None) × Wrote out c.written (output_from o c.mail notes c.at) out' n
FinishedFrom most o notes c out out' (Err stopped) = (long_from most o c.mail notes c.at ≡ Some stopped.at) × (length out' ≡ length out)

-- the same, and where a paragraph has too many words no byte of a digest is left
abbrev pub ClearedFrom : ℕ → Opts → List ℕ → Cursor → List ℕ → List ℕ → Result ℕ Stopped → Type 0
ClearedFrom most o notes c out out' (Ok n) = FinishedFrom most o notes c out out' (Ok n)
ClearedFrom most o notes c out out' (Err stopped) = (long_from most o c.mail notes c.at ≡ Some stopped.at) × (out' ≡ replicate (length out) 0)

-- all of them, from the first place on; where a paragraph has too many words no byte of a digest is left
abbrev pub start : Cursor
start = record { at = 0; written = 0; mail = true }

abbrev pub Finished : ℕ → Opts → List ℕ → List ℕ → List ℕ → Result ℕ Stopped → Type 0
Finished most o notes out out' (Ok n) = (long_paragraph most o 0 (pieces o notes) ≡ None) × Wrote out 0 (digest o notes) out' n
Finished most o notes out out' (Err stopped) = (long_paragraph most o 0 (pieces o notes) ≡ Some stopped.at) × (out' ≡ replicate (length out) 0)
