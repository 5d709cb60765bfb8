-- `lines::without_return` meets its contract: the body's last byte decides.
use mathlib.Core.Path.{sym}
use native.Mathlib.Omega.{arith}
use Rattle.lines.proofs.Lines.{return_off, return_on, return_none}
use Rattle.lines.proofs.without_return.Goals as goal

pub returns-in_default : goal.returns-in_default
returns-in_default c = sym (return_none _ c.in_default.ensures.cases)

pub returns-then-last-eq13 : goal.returns-then-last-eq13
returns-then-last-eq13 c = return_off _ _ _ c.in-Some.ensures.cases.0 (omega arith)

pub returns-else-last-eq13 : goal.returns-else-last-eq13
returns-else-last-eq13 c = return_on _ _ _ c.in-Some.ensures.cases.0 (omega arith)
