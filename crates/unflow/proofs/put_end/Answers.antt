-- `unflow::put_end` meets its contract.
use Rattle.output.proofs.Sink.{wrote_nil}
use Rattle.unflow.specs.Cited.Steps.{end_of}
use Rattle.unflow.proofs.put_end.Goals as goal

pub returns-then-ends : goal.returns-then-ends
unfolding end_of
returns-then-ends c = rw c.if-ends.true c.put_text.ensures

pub returns-else-ends : goal.returns-else-ends
unfolding end_of
returns-else-ends c = rw c.if-ends.false (wrote_nil _ 0)
