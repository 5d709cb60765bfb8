-- `text::glued_end` meets its contract: the run's end, or the place if no ink is behind the run.
use mathlib.Core.Path.{sym, ◌∙◌}
use borrow.Author.Rules.{rules}
use Rattle.text.proofs.NoBreaks.{glued_all, glued_none}
use Rattle.text.proofs.glued_end.Goals as goal

pub returns-then-is_ink : goal.returns-then-is_ink
returns-then-is_ink c =
    let r = c.over_no_breaks-end.ensures in
    (glued_all _ _ _ r (sym c.is_ink.ensures ∙ c.if-is_ink.true), r.within)

pub returns-else-is_ink : goal.returns-else-is_ink
returns-else-is_ink c =
    let r = c.over_no_breaks-end.ensures in
    (glued_none _ _ _ r (sym c.is_ink.ensures ∙ c.if-is_ink.false), search rules)
