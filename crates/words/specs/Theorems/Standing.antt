-- Words that are in the notes, one after the other; and what a word has at its place.
use Rattle.std.specs.Prelude.{◌≡◌, Bool, false, List, [], ◌∷◌, ◌++◌, map, ℕ, ◌+◌, ◌≤◌, ◌<◌, length}
use Rattle.std.proofs.Math.Seq.{slice}
use Rattle.lists.specs.Runs.{joined}
use Rattle.lists.specs.Theorems.All.{All}
use Rattle.text.specs.Characters.{Glyph, glyphs, extent}
use Rattle.options.specs.Opts.{Opts}
use Rattle.lines.specs.Lines.{Line, lines_of}
use Rattle.pieces.specs.Pieces.{Paragraph}
use Rattle.words.specs.Words.{words_of}
use Rattle.words.specs.Places.{Standing, words_standing}

-- from a place on up to an end: each word begins at the end of the one before it or after it
abbrev pub Ascends : ℕ → List Standing → ℕ → Type 0
Ascends from [] end = from ≤ end
Ascends from (s ∷ ss) end = (from ≤ s.place) × Ascends (s.place + length s.word.text) ss end

-- a word's bytes, of which there are some, are the notes' bytes at its place; and on its line the character that stands there is no blank
pub record Stands (glue : Bool) (notes : List ℕ) (place : ℕ) (bytes : List ℕ) : Type 0 where
  pub is : slice place (place + length bytes) notes ≡ bytes
  pub some : 0 < length bytes
  pub above : List Line
  pub line : Line
  pub below : List Line
  pub lines : lines_of notes ≡ above ++ line ∷ below
  pub before : List Glyph
  pub first : Glyph
  pub after : List Glyph
  pub characters : glyphs glue line.text ≡ before ++ first ∷ after
  pub there : place ≡ length (joined (λ (l : Line). l.raw) above) + extent before
  pub ink : first.blank ≡ false

-- a paragraph's words, each once and in order, stand so in the notes from a place on, within its lines
pub record WordsStand (o : Opts) (notes : List ℕ) (at : ℕ) (ls : List Line) (p : Paragraph) : Type 0 where
  pub words : map (λ (s : Standing). s.word) (words_standing o at ls p) ≡ words_of o p
  pub each : All (λ (s : Standing). Stands o.glue notes s.place s.word.text) (words_standing o at ls p)
  pub ascend : Ascends at (words_standing o at ls p) (at + length (joined (λ (l : Line). l.raw) ls))
