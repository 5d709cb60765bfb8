-- `flow::send_line` meets its contract.
use native.Mathlib.Omega.{arith}
use Rattle.output.proofs.Sink.{wrote_part}
use Rattle.flow.proofs.Writing.{end_count}
use Rattle.flow.proofs.Plain.{line_sent, line_most}
use Rattle.flow.proofs.send_line.Goals as goal

pub overflow_add-result : goal.overflow_add-result
overflow_add-result c =
    omega (arith, c.put_opened.ensures.1, c.requires.3, end_count c.put_end.ensures)

pub returns : goal.returns
returns c =
    let e = c.sent_end-end.ensures in
    let w = line_sent c.args.notes.now c.args.from c.args.to c.sent_end-end.result c.stuffing_of-spaces.result 0 e.1 e.0 c.stuffing_of-spaces.ensures.0 (wrote_part _ _ _ _ _ _ c.min-place.ensures c.put_opened.ensures.0) (wrote_part _ _ _ _ _ _ c.min-behind.ensures c.put_end.ensures) in
    (w, line_most c.args.notes.now _ _ _ e.0 e.1 e.2 c.requires.1 w)
