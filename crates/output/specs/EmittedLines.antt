-- RULES 9: a broken paragraph line by line, without line ends (with a line feed after each they are what is emitted: proofs/EmittedLines, `output_is_lines`).
use Rattle.std.specs.Prelude.{Bool, true, false, List, [], ◌∷◌, ◌++◌, ℕ}
use Rattle.records.specs.Word.{Word}
use Rattle.output.specs.Emission.{space_before}

-- the lines from one on that has come to `line`; previousPunct is how its last word ended
unfoldable pub lines_from : Bool → List ℕ → List ℕ → Bool → List Bool → List Word → List (List ℕ)
lines_from uniform indent line previousPunct breaks [] = line ∷ []
lines_from uniform indent line previousPunct [] (w ∷ ws) = lines_from uniform indent (line ++ (space_before uniform previousPunct w ++ w.text)) w.ends_punct [] ws
lines_from uniform indent line previousPunct (true ∷ bs) (w ∷ ws) = line ∷ lines_from uniform indent (indent ++ w.text) w.ends_punct bs ws
lines_from uniform indent line previousPunct (false ∷ bs) (w ∷ ws) = lines_from uniform indent (line ++ (space_before uniform previousPunct w ++ w.text)) w.ends_punct bs ws
