-- RULES 21.7: what the theorem of proofs/Width says of a paragraph's output.
use Rattle.std.specs.Prelude.{◌≡◌, true, false, List, ◌++◌, ◌⊎◌, ℕ, ◌<◌, length, drop}
use Rattle.lists.specs.Runs.{every, joined}
use Rattle.lists.specs.Theorems.All.{All}
use Rattle.text.specs.Characters.{characters}
use Rattle.text.specs.Theorems.Blanks.{Gap}
use Rattle.options.specs.Opts.{Opts}
use Rattle.lines.specs.Lines.{no_feed}
use Rattle.lines.specs.Classes.{columns_of}
use Rattle.pieces.specs.Pieces.{Paragraph, Piece, paragraph, pieces}
use Rattle.records.specs.Word.{Word}
use Rattle.words.specs.Words.{words_of}
use Rattle.words.specs.Theorems.PlainGap.{plain_gap}
use Rattle.output.specs.Emission.{line_feed}
use Rattle.output.specs.Theorems.Order.{InOrder}
use Rattle.walk.specs.Digest.{piece_output}

-- the columns of a line of the digest, counted afresh from its bytes: from column 0, by the tab width and the characters' widths
abbrev pub columns_in : ℕ → List ℕ → ℕ
columns_in tab line = columns_of tab 0 (characters line)

-- an output line: its bytes up to the line feed, of which the first are its indent, and the words on it
pub record OutputLine : Type 0 where
  pub bytes : List ℕ
  pub indent : List ℕ
  pub words : List Word

abbrev pub ended : OutputLine → List ℕ
ended l = l.bytes ++ line_feed

abbrev pub words_on : OutputLine → List Word
words_on l = l.words

-- An output line of a paragraph: no line feed is in it; it is the paragraph's first indent or its indent, then its words in order, each
-- once, with blanks between every two neighbours and nothing else; and its columns exceed the width only if it holds a single word. A blank
-- that is kept between two of its words, no tab, and takes another number of columns than one, which is U+3000 alone, excuses it.
pub record KeepsToWidth (o : Opts) (p : Paragraph) (l : OutputLine) : Type 0 where
  pub one_line : every no_feed l.bytes ≡ true
  pub indented : (l.indent ≡ p.first.bytes) ⊎ (l.indent ≡ p.indent.bytes)
  pub in_order : InOrder (Gap o.glue) l.indent l.words (ended l)
  pub keeps : every plain_gap (drop 1 l.words) ≡ true → o.width < columns_in o.tab l.bytes → length l.words ≡ 1

-- A paragraph's output is such lines, each ended by a line feed, and their words are the paragraph's.
pub record WithinWidth (o : Opts) (p : Paragraph) (output : List ℕ) : Type 0 where
  pub lines : List OutputLine
  pub are : output ≡ joined ended lines
  pub holds : joined words_on lines ≡ words_of o p
  pub each : All (KeepsToWidth o p) lines

-- A piece that is a paragraph and no mail is so; and what was written is the outputs of all pieces, joined in order, each of them so.
abbrev pub PieceKeeps : Opts → Piece → Type 0
PieceKeeps o q = (p : Paragraph) → q.kind ≡ paragraph p → p.mail ≡ false → WithinWidth o p (piece_output o q)

pub record KeptToWidth (o : Opts) (notes bytes : List ℕ) : Type 0 where
  pub are : bytes ≡ joined (piece_output o) (pieces o notes)
  pub each : All (PieceKeeps o) (pieces o notes)
