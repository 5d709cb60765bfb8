-- RULES 21.6: the words of the notes, each with its place in them.
use Rattle.std.specs.Prelude.{List, [], ◌∷◌, ◌++◌, ℕ, ◌+◌, length}
use Rattle.options.specs.Opts.{Opts}
use Rattle.lines.specs.Lines.{Line}
use Rattle.pieces.specs.Pieces.{Piece, Kind, blank_line, plain_line, paragraph, pieces}
use Rattle.records.specs.Word.{Word}
use Rattle.words.specs.Words.{words_of}
use Rattle.words.specs.Places.{Standing, words_standing}
use Rattle.walk.specs.Digest.{extent_of}

-- only a paragraph is split into words
abbrev pub words_under : Opts → Kind → List Word
words_under o blank_line = []
words_under o (plain_line line) = []
words_under o (paragraph p) = words_of o p

abbrev pub standing_under : Opts → ℕ → List Line → Kind → List Standing
standing_under o at ls blank_line = []
standing_under o at ls (plain_line line) = []
standing_under o at ls (paragraph p) = words_standing o at ls p

-- pieces stand one after the other from a place on
unfoldable pub standing_from : Opts → ℕ → List Piece → List Standing
standing_from o at [] = []
standing_from o at (q ∷ qs) = standing_under o at q.lines q.kind ++ standing_from o (at + length (extent_of q)) qs

unfoldable pub standing_words : Opts → List ℕ → List Standing
standing_words o notes = standing_from o 0 (pieces o notes)
