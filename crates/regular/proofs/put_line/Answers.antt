-- `regular::put_line` meets its contract.
use native.Mathlib.Omega.{arith}
use lib.Seq.{length-slice}
use Rattle.output.proofs.Sink.{wrote_then}
use Rattle.regular.proofs.put_line.Goals as goal

pub returns : goal.returns
returns c =
    let n = length-slice c.args.from c.args.to c.args.s.now c.requires.1 in
    (wrote_then c.put_at-j.ensures c.break_at.ensures.0, omega (arith, c.put_at-j.ensures.count, c.break_at.ensures.1, c.requires.1, c.requires.3))
