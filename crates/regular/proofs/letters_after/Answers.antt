-- `regular::letters_after` meets its contract.
use Rattle.regular.proofs.Pairs.{letters_first}
use Rattle.regular.proofs.letters_after.Goals as goal

pub returns-then-ends_line : goal.returns-then-ends_line
returns-then-ends_line c = letters_first _ _ _ c.requires.1 c.requires.0
