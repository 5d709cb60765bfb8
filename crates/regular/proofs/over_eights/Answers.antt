-- `regular::over_eights` meets its contract. Invariant: left columns of the room are not taken yet.
use Prim.Native.Nat.{◌+◌, ◌≤◌}
use native.Mathlib.Omega.{arith}
use Rattle.regular.proofs.Columns.{columns_none, columns_join, columns_size}
use Rattle.regular.proofs.over_eights.Goals as goal

pub loop-left-init : goal.loop-left-init
loop-left-init c = (omega arith, c.requires.0, omega (arith, columns_none c.args.s.now c.args.p))

pub columns_of_eight-left-requires : goal.columns_of_eight-left-requires
columns_of_eight-left-requires c =
    let eight : c.loop-left.i + 8 ≤ c.args.e =
    let l = c.loop-left in
    let start = c in
    omega (arith, c.loop-left-test.true, l.invariant.2, start.requires.2, columns_join start.args.s.now start.args.p l.i start.args.e l.invariant.0 l.invariant.1 start.requires.1, columns_size start.args.s.now l.i start.args.e start.requires.1) in
    (omega (arith, eight, c.requires.1), omega (arith, eight, c.requires.1))

pub loop-left-preserved : goal.loop-left-preserved
loop-left-preserved c =
    let eight : c.loop-left.i + 8 ≤ c.args.e =
    let l = c.loop-left in
    let start = c in
    omega (arith, c.loop-left-test.true, l.invariant.2, start.requires.2, columns_join start.args.s.now start.args.p l.i start.args.e l.invariant.0 l.invariant.1 start.requires.1, columns_size start.args.s.now l.i start.args.e start.requires.1) in
    let l = c.loop-left in
    let start = c in
    (omega (arith, l.invariant.0), eight, omega (arith, c.columns_of_eight-left.ensures.0, c.columns_of_eight-left.ensures.1, c.loop-left-test.true, l.invariant.2, columns_join start.args.s.now start.args.p l.i (l.i + 8) l.invariant.0 (omega arith) (omega (arith, eight, start.requires.1))))
