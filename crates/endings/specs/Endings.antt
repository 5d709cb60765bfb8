-- RULES 13: why a line ends where it does, and a broken paragraph as its lines, each with the way it ended.
use Rattle.std.specs.Prelude.{Bool, true, false, List, [], ◌∷◌, ℕ}
use Rattle.endings.specs.declared.Ending.{Ending}
use Rattle.endings.specs.declared.Ending.TheVariants.{Paragraph, Plain, Blank, Full, Chosen, Before, After}

-- the kind and its numbers: column, gap, added space, word width; t, L, W, D, cost. Numbers not named are 0
unfoldable pub numbers_of : Ending → List ℕ
numbers_of Paragraph = 0 ∷ 0 ∷ 0 ∷ 0 ∷ 0 ∷ 0 ∷ []
numbers_of Plain = 1 ∷ 0 ∷ 0 ∷ 0 ∷ 0 ∷ 0 ∷ []
numbers_of Blank = 2 ∷ 0 ∷ 0 ∷ 0 ∷ 0 ∷ 0 ∷ []
numbers_of (Full column gap space word) = 3 ∷ column ∷ gap ∷ space ∷ word ∷ 0 ∷ []
numbers_of (Chosen t l w d cost) = 4 ∷ t ∷ l ∷ w ∷ d ∷ cost ∷ []
numbers_of Before = 5 ∷ 0 ∷ 0 ∷ 0 ∷ 0 ∷ 0 ∷ []
numbers_of After = 6 ∷ 0 ∷ 0 ∷ 0 ∷ 0 ∷ 0 ∷ []

-- What becomes of a word after a paragraph's first: it goes on the line, or the line before it has ended so, and it starts a new one.
-- A broken paragraph is its words and, for each word after the first, what becomes of it.
pub data Next : Type 0 where
  goes_on : Next
  ended : Ending → Next

abbrev pub is_ended : Next → Bool
is_ended goes_on = false
is_ended (ended e) = true

-- does a new line start with it? This is what emission reads
unfoldable pub breaks : List Next → List Bool
breaks [] = []
breaks (n ∷ ns) = is_ended n ∷ breaks ns

-- the ways the lines ended, in order; the last line ends with the paragraph
unfoldable pub endings : List Next → List Ending
endings [] = Paragraph ∷ []
endings (goes_on ∷ ns) = endings ns
endings (ended e ∷ ns) = e ∷ endings ns
