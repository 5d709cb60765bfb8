-- `output::emit` meets its contract.
use Rattle.output.proofs.Sink.{wrote_part}
use Rattle.output.proofs.Bound.{with_most}
use Rattle.output.proofs.Runs.{first_wrote}
use Rattle.output.proofs.Sizes.{counted_wrote}
use Rattle.output.proofs.emit.Goals as goal

pub returns-then-out-at : goal.returns-then-out-at
returns-then-out-at c = with_most _ _ _ c.args.l (counted_wrote _ _ _ c.if-out-at.true c.emitted_size.ensures.0)

pub returns : goal.returns
returns c =
    with_most _ _ _ c.args.l
    (first_wrote
    c.requires.0
    c.get-w.ensures
    c.run_from-run.ensures
    (wrote_part _ _ _ _ _ _ c.min-place.ensures c.put_first.ensures)
    c.emit_rest.ensures)
