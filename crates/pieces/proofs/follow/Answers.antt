-- `pieces::follow` meets its contract. Invariant: the place behind the lines that follow, counted from the place reached, is that counted from the start; and the
-- lines from there on are sound if that is known.
use mathlib.Core.Path.{refl, sym, ◌∙◌}
use Rattle.pieces.proofs.Places.{next_sound}
use Rattle.pieces.proofs.Following.{other_keys, reach_past, reach_other, reach_fails, reach_joins}
use borrow.Enum.Refused.{opened}
use Rattle.pieces.proofs.follow.Goals as goal

pub returns-in_default : goal.returns-in_default
returns-in_default c = let i = c.loop-i.invariant in (reach_other _ _ _ _ _ c.line_at-next.ensures _ refl (other_keys c.line_at-next.result.class (opened c.in_default.in_default-own.keys2)) ∙ i.1, i.0)

pub returns-then-not-passes : goal.returns-then-not-passes
returns-then-not-passes c = let i = c.loop-i.invariant in (reach_fails _ _ _ _ _ c.line_at-next.ensures _ c.in-Formatted.is (sym c.passes.ensures ∙ c.if-not-passes.true) ∙ i.1, i.0)

pub loop-i-preserved : goal.loop-i-preserved
loop-i-preserved c = let i = c.loop-i.invariant in (c.line_at-next.ensures.within, reach_joins _ _ _ _ _ c.line_at-next.ensures _ c.in-Formatted.is (sym c.passes.ensures ∙ c.if-not-passes.false) ∙ i.1, next_sound _ _ _ _ _ c.line_at-next.ensures i.2)

pub returns : goal.returns
returns c = let i = c.loop-i.invariant in (reach_past _ _ _ _ c.loop-i-test.false ∙ i.1, i.0)
