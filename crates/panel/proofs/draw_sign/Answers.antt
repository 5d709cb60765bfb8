-- `panel::draw_sign` meets its contract: a law for each outcome.
use native.Mathlib.Omega.{arith}
use Rattle.panel.proofs.Signs.{tab_drawn, dropped_drawn, one_over, one_drawn, two_over, two_drawn}
use Rattle.panel.proofs.draw_sign.Goals as goal

pub returns-then-column-ge80 : goal.returns-then-column-ge80
returns-then-column-ge80 c = one_over _ _ _ _ _ c.in-One.is c.if-column-ge80.true

pub returns-then-column-ge79 : goal.returns-then-column-ge79
returns-then-column-ge79 c = two_over _ _ _ _ _ c.in-Two.is c.if-column-ge79.true

pub returns-in-Tab : goal.returns-in-Tab
returns-in-Tab c = tab_drawn _ _ _ _ _ c.in-Tab.is c.next_stop.ensures

pub returns-in-Dropped : goal.returns-in-Dropped
returns-in-Dropped c = dropped_drawn _ _ _ _ c.in-Dropped.is (omega arith)

pub returns-else-column-ge80 : goal.returns-else-column-ge80
returns-else-column-ge80 c = one_drawn _ _ _ _ _ c.in-One.is c.if-column-ge80.false

pub returns-else-column-ge79 : goal.returns-else-column-ge79
returns-else-column-ge79 c = two_drawn _ _ _ _ _ c.in-Two.is c.if-column-ge79.false
