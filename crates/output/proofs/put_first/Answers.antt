-- `output::put_first` meets its contract.
use Rattle.output.proofs.Sink.{wrote_then, wrote_part}
use Rattle.output.proofs.put_first.Goals as goal

pub returns : goal.returns
returns c =
    wrote_then
    c.put_margin-k.ensures
    (wrote_part _ _ _ _ _ _ c.min-place.ensures c.put_text.ensures)
