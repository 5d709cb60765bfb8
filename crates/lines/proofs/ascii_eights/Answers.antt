-- `lines::ascii_eights` meets its contract. Invariant: such bytes stand up to the place reached.
use native.Mathlib.Omega.{arith}
use Rattle.lines.proofs.Asciis.{run_more, run_printable}
use Rattle.lines.proofs.ascii_eights.Goals as goal

pub returns-then-n-lt8 : goal.returns-then-n-lt8
returns-then-n-lt8 c = run_more c.loop-i.invariant (run_printable _ _ _ (omega (arith, c.printable_among-n.ensures.0)) c.printable_among-n.ensures.1)

pub loop-i-preserved : goal.loop-i-preserved
loop-i-preserved c = run_more c.loop-i.invariant (run_printable _ _ _ (omega (arith, c.printable_among-n.ensures.0)) c.printable_among-n.ensures.1)
