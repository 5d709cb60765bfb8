-- `output::put_margin` meets its contract.
use Rattle.output.proofs.Sink.{wrote_then, wrote_part}
use Rattle.output.proofs.put_margin.Goals as goal

pub returns : goal.returns
returns c =
    wrote_then
    c.put_text-k.ensures
    (wrote_part _ _ _ _ _ _ c.min-place.ensures c.put_spaces.ensures)
