-- `walk::with_paragraph` meets its contract.
use mathlib.Core.List.{[]}
use native.Mathlib.Omega.{arith}
use Rattle.walk.proofs.with_paragraph.Goals as goal

pub numbers_for-requires-2 : goal.numbers_for-requires-2
numbers_for-requires-2 c = omega (arith, c.requires.0, c.requires.1, c.requires.2, c.requires.6 [], c.count_words-words.ensures)
