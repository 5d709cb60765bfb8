-- `output::copy_short` meets its contract: each block begins where the one before it ends, or in it.
use native.Mathlib.Omega.{arith}
use lib.ListN.{length}
use Prim.Native.Nat.{◌+◌, ◌-◌}
use Rattle.output.proofs.Copies.{covered, copied_all}
use Rattle.output.proofs.copy_short.Goals as goal

pub returns : goal.returns
returns c =
    let t = c.args.text.now in
    let second = c.min in
    let third = c.min-2 in
    copied_all t (length t - 4 + 4) (omega arith) (omega arith)
    (covered t (length t - 4) (third.result + 4) 4 (omega arith) (omega arith) (omega arith)
    (covered t third.result (second.result + 4) 4 (omega arith) (omega arith) (omega arith)
    (covered t second.result 4 4 (omega arith) (omega arith) (omega arith) c.copy_block.ensures c.copy_block-2.ensures)
    c.copy_block-3.ensures)
    c.copy_block-4.ensures)
