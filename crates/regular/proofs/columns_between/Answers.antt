-- `regular::columns_between` meets its contract. Invariant: n are the columns up to i.
use mathlib.Core.Path.{refl, sym}
use Prim.Native.Nat.{◌+◌}
use native.Mathlib.Omega.{arith}
use Rattle.regular.proofs.Columns.{columns_none, columns_step, columns_size}
use Rattle.regular.proofs.columns_between.Goals as goal

pub loop-i-init : goal.loop-i-init
loop-i-init c = (omega arith, c.requires.0, sym (columns_none c.args.s.now c.args.from))

pub overflow_add-n : goal.overflow_add-n
overflow_add-n c =
    let l = c.loop-i in
    let start = c in
    omega (arith, c.column_of-n.ensures.1, l.invariant.0, l.invariant.1, l.invariant.2, columns_size start.args.s.now start.args.from l.i (omega (arith, l.invariant.1, start.requires.1)), start.requires.1, start.requires.2)

pub loop-i-preserved : goal.loop-i-preserved
loop-i-preserved c =
    let l = c.loop-i in
    let start = c in
    let more = c.loop-i-test.true in
    (omega (arith, l.invariant.0), omega (arith, more), omega (arith, l.invariant.2, c.column_of-n.ensures.0, columns_step start.args.s.now start.args.from l.i (l.i + 1) refl l.invariant.0 (omega (arith, more, start.requires.1))))
