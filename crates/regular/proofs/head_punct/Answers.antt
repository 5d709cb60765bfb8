-- `regular::head_punct` meets its contract.
use mathlib.Core.Path.{◌∙◌}
use borrow.Author.Tests.{eq-eqb}
use Rattle.regular.proofs.Marks.{head_lone, head_more}
use Rattle.regular.proofs.head_punct.Goals as goal

pub returns-then-first_space-e : goal.returns-then-first_space-e
returns-then-first_space-e c = c.is_punct.ensures ∙ head_more _ _ _ c.requires _ c.first_space.ensures c.if-first_space-e.true

pub returns-else-first_space-e : goal.returns-else-first_space-e
returns-else-first_space-e c = rw (eq-eqb _ _ c.if-first_space-e.false) (head_lone _ _ _ c.requires _ c.first_space.ensures c.if-first_space-e.false)
