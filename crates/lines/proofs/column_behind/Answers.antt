-- `lines::column_behind` meets its contract: a tab goes to the next stop, at most a tab's width on.
use native.Mathlib.Omega.{arith}
use Rattle.lines.proofs.Measures.{width_is, narrow}
use Rattle.lines.proofs.column_behind.Goals as goal

pub overflow_add-result : goal.overflow_add-result
overflow_add-result c = omega (arith, narrow _ _ c.width.ensures)

pub returns-then-code-eq9 : goal.returns-then-code-eq9
returns-then-code-eq9 c = let n = c.next_stop.ensures in (rw c.if-code-eq9.true n.0, omega (arith, n.2, c.requires.2))

pub returns-else-code-eq9 : goal.returns-else-code-eq9
returns-else-code-eq9 c = (width_is _ _ _ _ c.if-code-eq9.false c.width.ensures, omega (arith, narrow _ _ c.width.ensures))
