-- `flow::put_break` meets its contract.
use native.Mathlib.Omega.{arith}
use Rattle.output.proofs.Sink.{wrote_then, wrote_part}
use Rattle.flow.proofs.put_break.Goals as goal

pub returns : goal.returns
returns c = (wrote_then c.put_line_end-k.ensures.0 (wrote_part _ _ _ _ _ _ c.min-place.ensures c.put_opened.ensures.0), omega (arith, c.put_line_end-k.ensures.1, c.put_opened.ensures.1))
