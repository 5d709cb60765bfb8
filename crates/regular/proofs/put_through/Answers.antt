-- `regular::put_through` meets its contract. Invariant: what is left of the output is that of the words from a place of the line on.
use native.Mathlib.Omega.{arith}
use borrow.Author.Tests.{not-true}
use Rattle.regular.proofs.Words.{wording_turn, wording_done}
use Rattle.regular.proofs.put_through.Goals as goal

pub returns-then-not-r : goal.returns-then-not-r
returns-then-not-r c =
    let p = c.requires in
    wording_done _ _ _ _ _ _ _ _ _ _ _ _ _ _ c.loop-o.invariant.0 _ _ _ c.split_some-r.ensures _ _ c.put_listed-v.ensures (not-true _ c.if-not-r.true) p.1 p.2 _ _ c.put_at.ensures

pub loop-o-preserved : goal.loop-o-preserved
loop-o-preserved c =
    let i = c.loop-o.invariant in
    let t = c.split_some-r.ensures in
    (wording_turn _ _ _ _ _ _ _ _ _ _ _ _ _ _ i.0 _ _ _ t _ _ c.put_listed-v.ensures, t.kept.held, omega (arith, i.2))
