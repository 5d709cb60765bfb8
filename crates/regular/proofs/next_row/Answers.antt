-- `regular::next_row` meets its contract.
use native.Mathlib.Omega.{arith}
use Rattle.regular.proofs.Marks.{went_none, went_some}
use Rattle.regular.proofs.next_row.Goals as goal

pub returns-then-from-e : goal.returns-then-from-e
returns-then-from-e c = went_none _ _ _ _ _ _ _ c.if-from-e.true c.requires.8

pub returns : goal.returns
returns c = let p = c.requires in went_some _ _ _ _ _ _ _ c.if-t.false (p.2 (omega (arith, p.0, c.if-from-e.false))) p.6 p.9 p.10 _ _ c.join-r.ensures _ c.is_punct.ensures
