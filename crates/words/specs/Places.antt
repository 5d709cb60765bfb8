-- RULES 21.6: the word record gains its place in the notes, that of its first non-blank byte. The place is beside the record
-- (`Standing`): breaking and emission are given records alone, so that what they do cannot depend on where a paragraph stands.
use Rattle.std.specs.Prelude.{Bool, true, false, List, [], ◌∷◌, ◌++◌, ℕ, ◌+◌, length}
use Rattle.text.specs.Characters.{glyphs, extent}
use Rattle.options.specs.Opts.{Opts}
use Rattle.lines.specs.Lines.{Line}
use Rattle.lines.specs.Classes.{glyphs_before, glyphs_from}
use Rattle.pieces.specs.Pieces.{Row, Paragraph}
use Rattle.records.specs.Word.{Word}
use Rattle.words.specs.Words.{Run, runs, words_of}

-- a word as it is in the notes
pub record Standing : Type 0 where
  pub place : ℕ
  pub word : Word

-- words with their places, in order
unfoldable pub standing : List ℕ → List Word → List Standing
standing [] ws = []
standing (p ∷ ps) [] = []
standing (p ∷ ps) (w ∷ ws) = record { place = p; word = w } ∷ standing ps ws

-- runs stand one after the other from a place on; a word begins after the blanks of its run
unfoldable pub places_from : ℕ → List Run → List ℕ
places_from at [] = []
places_from at (r ∷ rs) =
    elim r.text as (λ t. List ℕ) [ [] ↦ [] | g ∷ (gs → h) ↦ (at + extent r.blanks) ∷ places_from (at + extent r.blanks + extent r.text) rs ]

-- of a line that begins at a place: it is split from its indent end; a mail paragraph's line whole
unfoldable pub row_places : Bool → Bool → ℕ → Row → List ℕ
row_places glue mail at row =
    let gs = glyphs glue row.text in
    elim mail [ true ↦ places_from at (runs gs) | false ↦ places_from (at + extent (glyphs_before row.start gs)) (runs (glyphs_from row.start gs)) ]

-- of a paragraph: its lines, whose rows these are, stand one after the other from a place on
unfoldable pub places_of : Bool → Bool → ℕ → List Line → List Row → List ℕ
places_of glue mail at [] rows = []
places_of glue mail at (l ∷ ls) [] = []
places_of glue mail at (l ∷ ls) (row ∷ rows) = row_places glue mail at row ++ places_of glue mail (at + length l.raw) ls rows

unfoldable pub words_standing : Opts → ℕ → List Line → Paragraph → List Standing
words_standing o at ls p = standing (places_of o.glue p.mail at ls p.rows) (words_of o p)
