-- `regular::margin_at` meets its contract.
use native.Mathlib.Omega.{arith}
use Rattle.output.proofs.Sink.{wrote_part}
use Rattle.output.proofs.Writers.{margin_most}
use Rattle.regular.proofs.margin_at.Goals as goal

pub returns : goal.returns
returns c = let n = margin_most c.args.s.now c.args.m c.requires.0 in (wrote_part _ _ _ _ _ _ c.min-place.ensures c.put_margin.ensures, omega (arith, c.put_margin.ensures.count, c.requires.1))
