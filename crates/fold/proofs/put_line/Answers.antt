-- `fold::put_line` meets its contract.
use Rattle.output.proofs.Sink.{wrote_part}
use Rattle.fold.proofs.Texts.{line_written}
use Rattle.fold.proofs.put_line.Goals as goal

pub returns : goal.returns
returns c =
    line_written _ _ _ _ c.requires.0 c.put_rows-k.ensures (wrote_part _ _ _ _ _ _ c.min-place.ensures c.put_text.ensures)
