-- `regular::put_rows` meets its contract. Invariant: what is left of the output is that of the lines from i on.
use native.Mathlib.Omega.{arith}
use Rattle.regular.proofs.Going.{gone_all}
use Rattle.regular.proofs.put_rows.Goals as goal

pub returns : goal.returns
returns c = let p = c.requires in gone_all _ _ _ _ _ _ _ _ _ _ _ _ _ _ _ c.loop-i.invariant c.loop-i-test.false (omega (arith, p.1, p.2))
