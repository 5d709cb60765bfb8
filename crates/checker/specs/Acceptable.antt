-- RULES 18.1: the digests that are acceptable for notes. Their plain and blank lines are those that RULES 9 emits, and each
-- paragraph's lines carry its words once each, in order.
use Rattle.std.specs.Prelude.{◌≡◌, Bool, List, [], ◌∷◌, ◌++◌, ℕ}
use Rattle.lists.specs.Runs.{joined}
use Rattle.lists.specs.Theorems.All.{All}
use Rattle.text.specs.Theorems.Blanks.{Gap}
use Rattle.options.specs.Opts.{Opts}
use Rattle.pieces.specs.Pieces.{Kind, Piece, blank_line, plain_line, paragraph, pieces}
use Rattle.records.specs.Word.{Word}
use Rattle.words.specs.Words.{words_of}
use Rattle.output.specs.Emission.{line_feed}
use Rattle.output.specs.Theorems.Order.{InOrder}

-- a line of a digest: the words that it carries, and its bytes
pub record Cut : Type 0 where
  pub words : List Word
  pub bytes : List ℕ

abbrev pub cut_words : Cut → List Word
cut_words l = l.words

abbrev pub cut_bytes : Cut → List ℕ
cut_bytes l = l.bytes

-- every such line is its right indent, one or more words with at least one blank between two, and a line feed, with nothing else. (`InOrder`
-- says so of what is between two words; `Gap` are blank characters, read by the rule of RULES 4.4.)
abbrev pub LineOf : Bool → List ℕ → Cut → Type 0
LineOf glue indent l = InOrder (Gap glue) indent l.words l.bytes

-- a paragraph's words are cut into lines, each word once and in order: the first line after the first indent, the others after the indent
pub record Carries (glue : Bool) (first indent : List ℕ) (words : List Word) (bytes : List ℕ) : Type 0 where
  pub line : Cut
  pub others : List Cut
  pub line_is : LineOf glue first line
  pub others_are : All (LineOf glue indent) others
  pub words_are : words ≡ line.words ++ joined cut_words others
  pub bytes_are : bytes ≡ line.bytes ++ joined cut_bytes others

-- what a digest may have of a piece
abbrev pub PieceIn : Opts → Kind → List ℕ → Type 0
PieceIn o blank_line bytes = bytes ≡ line_feed
PieceIn o (plain_line line) bytes = bytes ≡ line ++ line_feed
PieceIn o (paragraph p) bytes = Carries o.glue p.first.bytes p.indent.bytes (words_of o p) bytes

-- bytes that are a part and a rest after it
pub record Then (P Q : List ℕ → Type 0) (bytes : List ℕ) : Type 0 where
  pub part : List ℕ
  pub rest : List ℕ
  pub bytes_are : bytes ≡ part ++ rest
  pub first : P part
  pub second : Q rest

-- and of pieces, one after the other, with nothing else
abbrev pub PiecesIn : Opts → List Piece → List ℕ → Type 0
PiecesIn o [] bytes = bytes ≡ []
PiecesIn o (q ∷ qs) bytes = Then (PieceIn o q.kind) (PiecesIn o qs) bytes

abbrev pub Acceptable : Opts → List ℕ → List ℕ → Type 0
Acceptable o notes digest = PiecesIn o (pieces o notes) digest
