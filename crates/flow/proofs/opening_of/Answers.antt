-- `flow::opening_of` meets its contract.
use mathlib.Core.Path.{refl}
use Rattle.output.proofs.Sink.{wrote_length}
use Rattle.flow.proofs.Openings.{opens}
use Rattle.flow.proofs.opening_of.Goals as goal

pub returns : goal.returns
returns c = opens _ _ _ _ _ refl c.put_first.ensures c.min-n.ensures _ c.judged.result (wrote_length c.put_first.ensures) c.judged.ensures
