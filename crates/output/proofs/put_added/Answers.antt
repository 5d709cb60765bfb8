-- `output::put_added` meets its contract.
use native.Mathlib.Omega.{arith}
use lib.ListN.{length-set}
use Rattle.output.proofs.Sink.{wrote_nil, wrote_byte, wrote_then}
use Rattle.output.proofs.Copies.{spaces_wrote}
use Rattle.output.proofs.put_added.Goals as goal
use Rattle.output.proofs.put_added.Goals.{then-room-gt0, else-room-gt0}

pub returns-then-room-gt1 : goal.returns-then-room-gt1
returns-then-room-gt1 c =
    let o = c.args.rest.now in
    elim c.if-room-gt0.branch [
      | then-room-gt0 w ↦ rw w.rest-is (spaces_wrote c.args.count 2 (omega arith) (wrote_then (wrote_byte o 0 32 (omega arith)) (wrote_byte _ 1 32 (rw length-set (omega arith)))))
      | else-room-gt0 w ↦ absurd (omega arith)
    ]

pub returns-else-room-gt1 : goal.returns-else-room-gt1
returns-else-room-gt1 c =
    let o = c.args.rest.now in
    elim c.if-room-gt0.branch [
      | then-room-gt0 w ↦ rw w.rest-is (spaces_wrote c.args.count 1 (omega arith) (wrote_byte o 0 32 (omega arith)))
      | else-room-gt0 w ↦ rw w.rest-is (spaces_wrote c.args.count 0 (omega arith) (wrote_nil o 0))
    ]
