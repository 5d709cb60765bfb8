-- `widths::search` meets its contract. Invariant: the ranges before k may be left out.
use native.Mathlib.Omega.{arith}
use Rattle.widths.proofs.Looking.{gap, hit, on}
use Rattle.widths.proofs.search.Goals as goal

pub returns-then-c-s-2 : goal.returns-then-c-s-2
returns-then-c-s-2 c = gap _ _ _ _ _ c.row-s.ensures c.loop-s.invariant c.if-c-s-2.true

pub returns-else-c-s-2 : goal.returns-else-c-s-2
returns-else-c-s-2 c =
    hit _ _ _ _ _ c.row-s.ensures c.loop-s.invariant c.if-c-s-2.false c.if-c-s.true

pub overflow_add-k : goal.overflow_add-k
overflow_add-k c =
    let n = on _ _ _ _ _ c.row-s.ensures c.loop-s.invariant c.requires.1 c.if-c-s.false in
    let h = n.0 in
    omega arith

pub loop-s-smaller : goal.loop-s-smaller
loop-s-smaller c =
    let n = on _ _ _ _ _ c.row-s.ensures c.loop-s.invariant c.requires.1 c.if-c-s.false in
    let h = n.0 in
    omega arith

pub loop-s-preserved : goal.loop-s-preserved
loop-s-preserved c =
    (on _ _ _ _ _ c.row-s.ensures c.loop-s.invariant c.requires.1 c.if-c-s.false).1
