-- `flow::put_line_end` meets its contract.
use mathlib.Core.Bool.{not}
use native.Mathlib.Omega.{arith}
use Rattle.output.proofs.Sink.{wrote_then, wrote_part}
use Rattle.unflow.proofs.Puts.{wrote_spaces}
use Rattle.flow.proofs.Writing.{as_number, at_most_one, line_ended, end_count}
use Rattle.flow.proofs.put_line_end.Goals as goal

pub overflow_add-result : goal.overflow_add-result
overflow_add-result c = omega (arith, at_most_one (not c.args.dashed) c.from.ensures, wrote_spaces c.from.result c.put_added-k.ensures, end_count c.put_end.ensures)

pub returns : goal.returns
returns c = (
  line_ended _ (as_number (not c.args.dashed) c.from.ensures) (wrote_then c.put_added-k.ensures (wrote_part _ _ _ _ _ _ c.min-place.ensures c.put_end.ensures)),
  omega (arith, at_most_one (not c.args.dashed) c.from.ensures, wrote_spaces c.from.result c.put_added-k.ensures, end_count c.put_end.ensures),
)
