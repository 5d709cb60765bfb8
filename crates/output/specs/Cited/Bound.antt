-- How long emission gets at most. A caller that adds up its pieces stays below 2 ^ 32 by this bound.
use Rattle.std.specs.Prelude.{List, [], ◌∷◌, ℕ, ◌+◌, ◌*◌, length}
use Rattle.records.specs.Word.{Word}
use Rattle.records.specs.Cited.Table.{words_in}
use Rattle.output.specs.declared.Layout.{Layout}
use Rattle.output.specs.Cited.Writers.{margin_of}

-- the bytes of the words and of the blanks before them
unfoldable pub bulk : List Word → ℕ
bulk [] = 0
bulk (w ∷ ws) = length w.blanks + length w.text + bulk ws

-- a paragraph takes no more than the first indent, its words with their blanks, for each word an indent and two bytes, and a line feed
abbrev pub longest : List ℕ → List ℕ → List Word → ℕ
longest first indent ws = length first + bulk ws + length ws * (length indent + 2) + 1

-- the same of what emission is handed
abbrev pub most_emitted : List ℕ → List ℕ → ℕ → Layout → ℕ
most_emitted notes table n l = longest (margin_of notes l.first) (margin_of notes l.indent) (words_in notes n table)
