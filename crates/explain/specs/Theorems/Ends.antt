-- Where a line of the digest ends, by its reason.
use Rattle.std.specs.Prelude.{◌≡◌, ◌||◌, List, [], ◌∷◌, ◌++◌, ℕ, suc, length}
use Rattle.lists.specs.Runs.{joined}
use Rattle.options.specs.Opts.{Opts}
use Rattle.pieces.specs.Pieces.{Paragraph, Piece, Kind, blank_line, plain_line, paragraph}
use Rattle.records.specs.Word.{Word}
use Rattle.words.specs.Words.{words_of}
use Rattle.output.specs.Emission.{line_feed, emit}
use Rattle.endings.specs.declared.Ending.{Ending}
use Rattle.endings.specs.declared.Ending.TheVariants.{Paragraph as OfParagraph, Plain, Blank}
use Rattle.endings.specs.Endings.{Next, goes_on, ended, breaks}
use Rattle.paragraphs.specs.Breaks.{setting_of}
use Rattle.walk.specs.Digest.{piece_output}
use Rattle.explain.specs.Reasons.{lines_by}

-- after some of a paragraph's words: none is left, and the line ends with the paragraph; or the breaker has ended it so before the next word
abbrev pub EndsSo : List Next → Ending → Type 0
EndsSo [] e = e ≡ OfParagraph
EndsSo (goes_on ∷ rest) e = ⊥
EndsSo (ended d ∷ rest) e = e ≡ d

-- A part of a paragraph's output: the words up to there, broken as the breaker has broken them, and a line feed.
pub record UpToWord (o : Opts) (p : Paragraph) (e : Ending) (part : List ℕ) : Type 0 where
  pub here : List Word
  pub later : List Word
  pub broken : List Next
  pub rest : List Next
  pub words : words_of o p ≡ here ++ later
  pub lines : lines_by (o.quick || p.mail) (setting_of o p.mail p.first.columns p.indent.columns) (words_of o p) ≡ broken ++ rest
  pub one_less : length here ≡ suc (length broken)
  pub bytes : part ≡ emit (o.uniform || p.mail) p.first.bytes p.indent.bytes (breaks broken) here
  pub ends : EndsSo rest e

-- the output of a blank or a plain line is one line, and ends as such
abbrev pub EndsIn : Opts → Kind → Ending → List ℕ → Type 0
EndsIn o blank_line e part = (e ≡ Blank) × (part ≡ line_feed)
EndsIn o (plain_line line) e part = (e ≡ Plain) × (part ≡ line ++ line_feed)
EndsIn o (paragraph p) e part = UpToWord o p e part

-- The digest up to the end of a line: the outputs of the pieces before one of them, and that one's up to where the reason says.
pub record EndsThere (o : Opts) (qs : List Piece) (e : Ending) (front : List ℕ) : Type 0 where
  pub before : List Piece
  pub piece : Piece
  pub after : List Piece
  pub part : List ℕ
  pub are : qs ≡ before ++ piece ∷ after
  pub bytes : front ≡ joined (piece_output o) before ++ part
  pub ends : EndsIn o piece.kind e part
