-- `knuth_plass::turns::reach_by_tab` meets its contract. A fresh line has no gap.
use native.Mathlib.Omega.{arith}
use Rattle.knuth_plass.proofs.Line.{line_fresh, line_gap}
use Rattle.knuth_plass.proofs.turns.reach_by_tab.Goals as goal

pub returns-then-b : goal.returns-then-b
returns-then-b c = let a = c.args in (rw c.from.ensures (line_fresh a.r.now.goals.setting a.r.now.turn a.b c.if-b.true), omega arith)

pub returns : goal.returns
returns c = let a = c.args in let e = c.gap_width-gap.ensures in (rw c.from-2.ensures (line_gap a.r.now.goals.setting a.r.now.turn a.b _ c.if-b.false e.is), omega arith)
