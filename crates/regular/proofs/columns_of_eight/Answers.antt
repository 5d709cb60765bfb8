-- `regular::columns_of_eight` meets its contract. Invariant: n are the columns up to k.
use mathlib.Core.Path.{◌≡◌, refl, sym}
use Prim.Native.Nat.{◌+◌}
use native.Mathlib.Omega.{arith}
use Rattle.regular.proofs.Columns.{columns_none, columns_step, columns_size}
use Rattle.regular.proofs.columns_of_eight.Goals as goal

pub loop-k-init : goal.loop-k-init
loop-k-init c = (omega arith, omega arith, sym (columns_none c.args.s.now c.args.i))

pub overflow_add-n : goal.overflow_add-n
overflow_add-n c =
    let l = c.loop-k in
    let h = c.requires in
    omega (arith, c.column_of-n.ensures.1, l.invariant.0, l.invariant.1, l.invariant.2, columns_size c.args.s.now c.args.i l.k (omega (arith, l.invariant.1, h.0, h.1)))

pub loop-k-preserved : goal.loop-k-preserved
loop-k-preserved c =
    let l = c.loop-k in
    let h = c.requires in
    let more = c.loop-k-test.true in
    (omega (arith, l.invariant.0), omega (arith, more), omega (arith, l.invariant.2, c.column_of-n.ensures.0, columns_step c.args.s.now c.args.i l.k (l.k + 1) refl l.invariant.0 (omega (arith, more, h.0, h.1))))

pub returns : goal.returns
returns c =
    let l = c.loop-k in
    let h = c.requires in
    let e : l.k ≡ c.args.i + 8 = omega (arith, l.invariant.1, c.loop-k-test.false) in
    (rw e at l.invariant.2, omega (arith, e, l.invariant.2, columns_size c.args.s.now c.args.i l.k (omega (arith, e, h.0, h.1))))
