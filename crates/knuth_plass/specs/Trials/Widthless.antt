-- Words of width 0 (RULES 8.4): at stretch 1 their W is 0. U+0301 `a` `a` U+0301 `a` with goal 2 and width 3 is the smallest text
-- on which it shows: the Rust, which divides 1 by 0 there, breaks before the second U+0301, not after it.
use Rattle.std.specs.Prelude.{◌≡◌, refl, true, false, [], ◌∷◌, ℕ, None}
use Rattle.std.specs.Float.Ieee.{mul, div, sub, of_int}
use Rattle.records.specs.Word.{Word}
use Rattle.spacing.specs.declared.Setting.{Setting}
use Rattle.spacing.specs.Spacing.{gap_width, added_space}
use Rattle.demerits.specs.Demerits.{term, ratio, word_term, cost}
use Rattle.knuth_plass.specs.KnuthPlass.{first_break, reduced, reached, staying, offer_of, lesser, best_offer, least_from, least, restart, round, rounds_from, path_of, starts_line, marks_from, best_breaks}

-- one after a blank, in the middle of a line
word : ℕ → Word
word n = record { blanks = 32 ∷ []; text = []; width = n; before = None; after = 1; new_line = false; ends_punct = false; sentence_start = false }

narrow : Setting
narrow = record { width = 3; goal = 2; tab = 8; uniform = false; first = 0; indent = 0 }

-- two words on the first line, two on the second, one on the last
smallest : best_breaks narrow (word 0 ∷ word 1 ∷ word 1 ∷ word 0 ∷ word 1 ∷ []) ≡ false ∷ true ∷ false ∷ true ∷ []
unfolding word narrow mul div sub of_int gap_width added_space term ratio word_term cost first_break reduced reached staying offer_of lesser best_offer least_from least restart round rounds_from path_of starts_line marks_from best_breaks
smallest = refl
