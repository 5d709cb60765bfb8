-- A paragraph's words and their places, of its lines and where their words begin; and the code's answer.
use Rattle.std.specs.Prelude.{Bool, cond, List, [], ◌∷◌, ℕ, leb, length, Ok, Err, Result}
use Rattle.lists.specs.Runs.{joined}
use Rattle.options.specs.Opts.{Opts}
use Rattle.lines.specs.Lines.{Line}
use Rattle.pieces.specs.Pieces.{Row}
use Rattle.records.specs.Word.{Word}
use Rattle.words.specs.Words.{row_words}
use Rattle.words.specs.Places.{places_of}
use Rattle.words.specs.declared.TooMany.{TooMany}

-- the words of the first line begin at start, those of the others at later
unfoldable pub rows_at : ℕ → ℕ → List Line → List Row
rows_at start later [] = []
rows_at start later (l ∷ ls) = record { text = l.text; start = start } ∷ rows_at later later ls

unfoldable pub words_at : Opts → Bool → ℕ → ℕ → List Line → List Word
words_at o mail start later ls = joined (row_words o mail) (rows_at start later ls)

-- and where in the notes they stand, if the first line begins at a place
unfoldable pub places_at : Bool → Bool → ℕ → ℕ → ℕ → List Line → List ℕ
places_at glue mail at start later ls = places_of glue mail at ls (rows_at start later ls)

-- up to so many words are counted
unfoldable pub counted : ℕ → List Word → Result ℕ TooMany
counted most ws = cond (leb (length ws) most) (Ok (length ws)) (Err (record {}))
