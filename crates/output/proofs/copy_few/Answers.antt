-- `output::copy_few` meets its contract: each byte is the next one, or one that is written already.
use Prim.Native.Nat.{◌+◌, ◌-◌, ◌/◌, ◌<◌}
use native.Mathlib.Omega.{arith}
use lib.ListN.{length}
use Rattle.output.proofs.Sink.{wrote_nil}
use Rattle.output.proofs.Copies.{byte_over, copied_all}
use Rattle.output.proofs.copy_few.Goals as goal

pub returns-then-is_empty : goal.returns-then-is_empty
returns-then-is_empty c = copied_all _ 0 (grind arith) (grind arith) (wrote_nil _ 0)

pub returns : goal.returns
returns c =
    let t = c.args.text.now in
    let n = length t in
    let more : 0 < n = grind arith in
    copied_all t (n - 1 + 1) (omega arith) (omega arith)
    (byte_over t (n - 1) (n / 2 + 1) (omega arith) (omega arith) (omega arith) (omega arith)
    (byte_over t (n / 2) 1 (omega arith) (omega arith) (omega arith) (omega arith)
    (byte_over t 0 0 (omega arith) (omega arith) (omega arith) (omega arith)
    (wrote_nil _ 0))))
