-- `options::read_block` meets its contract. Invariant: the first fault of the fields left is that of all, and what was taken under a tag is,
-- with the fields left, its part among all.
use mathlib.Core.Path.{sym, ◌∙◌}
use borrow.Author.Rules.{rules}
use Rattle.options.proofs.Taken.{reading_first, reading_more}
use Rattle.options.proofs.read_block.Goals as goal

pub loop-at-init : goal.loop-at-init
loop-at-init c = search (rules, reading_first)

pub loop-at-preserved : goal.loop-at-preserved
loop-at-preserved c =
    let w = sym c.well_formed-in-loop-at.ensures ∙ c.if-not-well_formed.false in
    reading_more _ _ _ _ c.loop-at.invariant _ _ c.loop-at-test.true c.byte_at-tag.ensures.value c.field_end-end.ensures w _ c.put.ensures
