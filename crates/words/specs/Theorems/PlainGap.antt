-- The blanks of the notes that are kept before a word on its line, where each is a tab or takes one column.
use Rattle.std.specs.Prelude.{Bool, ◌||◌, ℕ, eqb}
use Rattle.lists.specs.Runs.{every}
use Rattle.text.specs.Characters.{Glyph, characters}
use Rattle.records.specs.Word.{Word}

abbrev pub plain_blank : ℕ → ℕ → Bool
plain_blank code width = eqb code 9 || eqb width 1

abbrev pub plain_gap : Word → Bool
plain_gap w = every (λ (g : Glyph). plain_blank g.code g.width) (characters w.blanks)
