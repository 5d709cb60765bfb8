-- `panel::line_ends` meets its contract.
use borrow.Author.Tests.{eq-eqb, ne_eqb}
use Rattle.panel.proofs.Counts.{ends_told}
use Rattle.panel.proofs.line_ends.Goals as goal

pub returns-then-last-s : goal.returns-then-last-s
returns-then-last-s c = ends_told _ _ c.requires 1 (rw (eq-eqb _ _ c.if-last-s.true))

pub returns-then-s-last-eq10 : goal.returns-then-s-last-eq10
returns-then-s-last-eq10 c = ends_told _ _ c.requires 1 (rw (ne_eqb _ _ c.if-last-s.false, eq-eqb _ _ c.if-s-last-eq10.true))

pub returns-else-s-last-eq10 : goal.returns-else-s-last-eq10
returns-else-s-last-eq10 c = ends_told _ _ c.requires 0 (rw (ne_eqb _ _ c.if-last-s.false, ne_eqb _ _ c.if-s-last-eq10.false))
