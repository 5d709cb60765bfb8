-- RULES 7: a word goes on the line unless column + gap + S + width > width limit; else a new line starts with it.
use Rattle.std.specs.Prelude.{Bool, true, false, List, [], ◌∷◌, ℕ, ◌+◌, ltb}
use Rattle.records.specs.Word.{Word}
use Rattle.spacing.specs.Spacing.{gap_at, added_space}
use Rattle.spacing.specs.declared.Setting.{Setting}

-- for each word after the first: does a new line start with it? column is where the line stands, previousPunct how the word before ended
unfoldable pub quick_from : Setting → ℕ → Bool → List Word → List Bool
quick_from g column previousPunct [] = []
quick_from g column previousPunct (w ∷ ws) =
    let reached = column + gap_at g.tab column w + added_space g.uniform w.new_line w.sentence_start previousPunct + w.width in
    elim (ltb g.width reached) [
      | true ↦ true ∷ quick_from g (g.indent + w.width) w.ends_punct ws
      | false ↦ false ∷ quick_from g reached w.ends_punct ws
    ]

-- the first indent and the first word; previous punct false, even if that word ends so. (A paragraph has a word: [] is not reached.)
unfoldable pub quick_breaks : Setting → List Word → List Bool
quick_breaks g [] = []
quick_breaks g (w ∷ ws) = quick_from g (g.first + w.width) false ws
