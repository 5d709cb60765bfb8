-- `regular::put_at` meets its contract.
use Rattle.output.proofs.Sink.{wrote_part}
use Rattle.regular.proofs.put_at.Goals as goal

pub returns : goal.returns
returns c = wrote_part _ _ _ _ _ _ c.min-place.ensures c.put_text.ensures
