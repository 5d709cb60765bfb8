-- RULES 7 to 9: emission, the same for both. A broken paragraph is its words and, for each word after the
-- first, whether a new line starts with it.
use Rattle.std.specs.Prelude.{Bool, true, false, List, [], ◌∷◌, ◌++◌, ℕ, replicate}
use Rattle.records.specs.Word.{Word}
use Rattle.spacing.specs.Spacing.{added_space}

abbrev pub line_feed : List ℕ
line_feed = 10 ∷ []

-- what is before a word that goes on the line: added space, and the blanks that its record has
unfoldable pub space_before : Bool → Bool → Word → List ℕ
space_before uniform previousPunct w = replicate (added_space uniform w.new_line w.sentence_start previousPunct) 32 ++ w.blanks

-- The words after the first; on a fresh line, after a line feed and the indent, a word is bare; at the end a line feed. (There is a
-- break for each of these words: the second line, with words and no break for them, is not reached.)
unfoldable pub emit_rest : Bool → List ℕ → Bool → List Bool → List Word → List ℕ
emit_rest uniform indent previousPunct breaks [] = line_feed
emit_rest uniform indent previousPunct [] (w ∷ ws) = space_before uniform previousPunct w ++ (w.text ++ emit_rest uniform indent w.ends_punct [] ws)
emit_rest uniform indent previousPunct (b ∷ bs) (w ∷ ws) =
    elim b as (λ x. List ℕ) [ true ↦ line_feed ++ indent | false ↦ space_before uniform previousPunct w ]
    ++ (w.text ++ emit_rest uniform indent w.ends_punct bs ws)

-- first indent and first word; previous punct is false after it, even if it ends so. (A paragraph has a word: the first line is not reached.)
unfoldable pub emit : Bool → List ℕ → List ℕ → List Bool → List Word → List ℕ
emit uniform first indent breaks [] = line_feed
emit uniform first indent breaks (w ∷ ws) = first ++ (w.text ++ emit_rest uniform indent false breaks ws)
