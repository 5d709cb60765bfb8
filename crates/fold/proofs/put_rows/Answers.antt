-- `fold::put_rows` meets its contract. Invariant: what is left to be written behind what is written gives the whole.
use Rattle.output.proofs.Sink.{wrote_part}
use Rattle.fold.proofs.Rows.{turning_row, turning_last}
use Rattle.fold.proofs.put_rows.Goals as goal

pub loop-at-preserved : goal.loop-at-preserved
loop-at-preserved c =
    let e = c.row_end-end.ensures in turning_row _ _ _ c.loop-at.invariant c.loop-at-test.true e.0 (e.2 c.loop-at-test.true) e.1 (wrote_part _ _ _ _ _ _ c.min-place.ensures c.put_fed-k.ensures)

pub returns : goal.returns
returns c =
    let e = c.row_end-at.ensures in turning_last _ _ _ c.loop-at.invariant e.0 e.1 c.put_text-k.ensures c.loop-at-test.false
