-- `fold::put_fed` meets its contract.
use Rattle.output.proofs.Sink.{wrote_part, wrote_then}
use Rattle.fold.proofs.put_fed.Goals as goal

pub returns : goal.returns
returns c =
    wrote_then c.put_feed-k.ensures (wrote_part _ _ _ _ _ _ c.min-place.ensures c.put_text.ensures)
