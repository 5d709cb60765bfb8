-- `output::put_break` meets its contract.
use Rattle.output.proofs.Sink.{wrote_then, wrote_part}
use Rattle.output.proofs.put_break.Goals as goal

pub returns : goal.returns
returns c =
    wrote_then
    c.put_feed-k.ensures
    (wrote_part _ _ _ _ _ _ c.min-place.ensures c.put_margin.ensures)
