-- `flow::emit` meets its contract.
use mathlib.Core.Path.{refl}
use Rattle.output.proofs.Sink.{wrote_part}
use Rattle.flow.proofs.Writing.{paragraph_sent}
use Rattle.flow.proofs.emit.Goals as goal

pub returns : goal.returns
returns c =
    paragraph_sent _ _ _ c.args.l c.get-w.result c.opening_of-o.result _ _ c.emit_rest.result c.requires.0 c.get-w.ensures c.opening_of-o.ensures (wrote_part _ _ _ _ _ _ c.min-place.ensures c.put_opened.ensures.0) refl c.emit_rest.ensures
