-- `regular::break_at` meets its contract.
use native.Mathlib.Omega.{arith}
use Rattle.output.proofs.Sink.{wrote_part}
use Rattle.output.proofs.Writers.{margin_most}
use Rattle.regular.proofs.break_at.Goals as goal

pub returns : goal.returns
returns c = let w = c.put_break.ensures in let n = margin_most c.args.s.now c.args.indent c.requires.0 in (wrote_part _ _ _ _ _ _ c.min-place.ensures w, omega (arith, w.count, c.requires.1))
