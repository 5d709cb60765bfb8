-- `output::copy_long` meets its contract. Invariant: the text up to the place reached is written.
use Prim.Native.Nat.{◌+◌, ◌-◌}
use native.Mathlib.Omega.{arith}
use lib.ListN.{length}
use Rattle.output.proofs.Sink.{wrote_nil}
use Rattle.output.proofs.Copies.{covered, copied_all}
use Rattle.output.proofs.copy_long.Goals as goal

pub loop-k-init : goal.loop-k-init
loop-k-init c = (omega arith, wrote_nil _ 0)

pub loop-k-preserved : goal.loop-k-preserved
loop-k-preserved c =
    let l = c.loop-k in
    (omega arith, covered c.args.text.now l.k l.k 64 (omega arith) (omega arith) (omega arith) l.invariant.1 c.copy_block.ensures)

pub returns : goal.returns
returns c =
    let t = c.args.text.now in
    let l = c.loop-k in
    let left = c.loop-k-test.false in
    let h = c.requires.0 in
    let a = c.min in
    let b = c.min-2 in
    let d = c.min-3 in
    let one = covered t a.result l.k 16 (omega (arith, a.ensures)) (omega (arith, a.ensures)) (omega (arith, a.ensures)) l.invariant.1 c.copy_block-2.ensures in
    let two = covered t b.result (a.result + 16) 16 (omega (arith, a.ensures, b.ensures)) (omega (arith, a.ensures, b.ensures)) (omega (arith, b.ensures)) one c.copy_block-3.ensures in
    let three = covered t d.result (b.result + 16) 16 (omega (arith, b.ensures, d.ensures)) (omega (arith, b.ensures, d.ensures)) (omega (arith, d.ensures)) two c.copy_block-4.ensures in
    copied_all t (length t - 16 + 16) (omega arith) (omega arith)
    (covered t (length t - 16) (d.result + 16) 16 (omega (arith, d.ensures, left)) (omega (arith, d.ensures)) (omega arith) three c.copy_block-5.ensures)
