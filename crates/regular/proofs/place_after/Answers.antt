-- `regular::place_after` meets its contract. Invariant: left columns of the room are not taken yet.
use mathlib.Core.Path.{◌≡◌, refl}
use Prim.Native.Nat.{◌+◌, ◌-◌}
use native.Mathlib.Omega.{arith}
use Rattle.regular.specs.Cited.Places.{columns_in}
use Rattle.regular.proofs.Columns.{columns_join, columns_step, columns_size}
use Rattle.regular.proofs.place_after.Goals as goal

pub loop-left-preserved : goal.loop-left-preserved
loop-left-preserved c =
    let step : columns_in c.args.s.now c.args.p (c.loop-left.i + 1) + (c.loop-left.left - c.column_of-n.result) ≡ c.args.room =
    let l = c.loop-left in
    let start = c in
    omega (arith, l.invariant.2, c.if-left-n.false, c.column_of-n.ensures.0, columns_step start.args.s.now start.args.p l.i (l.i + 1) refl l.invariant.0 (omega (arith, l.invariant.1, start.requires.1))) in
    let l = c.loop-left in
    let start = c in
    let more = l.invariant.1 in
    (omega (arith, l.invariant.0), omega (arith, more, step, start.requires.2, columns_join start.args.s.now start.args.p (l.i + 1) start.args.e (omega (arith, l.invariant.0)) (omega (arith, more)) start.requires.1, columns_size start.args.s.now (l.i + 1) start.args.e start.requires.1), step)
