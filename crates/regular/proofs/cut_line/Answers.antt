-- `regular::cut_line` meets its contract.
use native.Mathlib.Omega.{arith}
use Rattle.regular.proofs.Cuts.{cut_found, cut_long}
use Rattle.regular.proofs.cut_line.Goals as goal

pub returns-then-p-q : goal.returns-then-p-q
returns-then-p-q c = let pre = c.requires in cut_found _ _ _ _ pre.0 pre.1 pre.2 _ _ _ c.last_space-q.ensures c.if-p-q.true c.before_spaces-end.ensures c.over_spaces.ensures

pub returns : goal.returns
returns c = let pre = c.requires in cut_long _ _ _ _ pre.0 pre.1 pre.2 _ _ c.last_space-q.ensures (omega arith) c.first_space-z.ensures _ (let m = c.first_space-z.ensures.most in omega (arith, m, c.if-z-e.false)) c.over_spaces-2.ensures
