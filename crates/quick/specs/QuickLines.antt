-- RULES 13: the lines of Quick, each with the numbers by which the next word would not fit. The line breaks are those of Quick
-- (proofs/Lines, `breaks_are_quick's`).
use Rattle.std.specs.Prelude.{Bool, true, false, List, [], ◌∷◌, ℕ, ◌+◌, ltb}
use Rattle.records.specs.Word.{Word}
use Rattle.spacing.specs.Spacing.{gap_at, added_space}
use Rattle.spacing.specs.declared.Setting.{Setting}
use Rattle.endings.specs.declared.Ending.TheVariants.{Full}
use Rattle.endings.specs.Endings.{Next, goes_on, ended}

-- column + gap + S + width > width limit: the line ends before the word
unfoldable pub quick_lines_from : Setting → ℕ → Bool → List Word → List Next
quick_lines_from g column previousPunct [] = []
quick_lines_from g column previousPunct (w ∷ ws) =
    let gap = gap_at g.tab column w in
    let space = added_space g.uniform w.new_line w.sentence_start previousPunct in
    let reached = column + gap + space + w.width in
    elim (ltb g.width reached) [
      | true ↦ ended (Full column gap space w.width) ∷ quick_lines_from g (g.indent + w.width) w.ends_punct ws
      | false ↦ goes_on ∷ quick_lines_from g reached w.ends_punct ws
    ]

unfoldable pub quick_lines : Setting → List Word → List Next
quick_lines g [] = []
quick_lines g (w ∷ ws) = quick_lines_from g (g.first + w.width) false ws
