-- `flow::emit_rest` meets its contract. Invariant: what is left to write and to count is what the words from i on give.
use mathlib.Core.Path.{◌∙◌}
use native.Mathlib.Omega.{arith}
use Rattle.output.proofs.Sink.{wrote_length, wrote_part, left_last}
use Rattle.flow.proofs.Writing.{end_count, one_more, turn_left, turn_dashes, sent_end, dashes_end}
use Rattle.flow.proofs.emit_rest.Goals as goal

pub loop-i-preserved : goal.loop-i-preserved
loop-i-preserved c =
    let p = c.requires.0 in
    let i = c.loop-i.invariant in
    let q = rw c.starts_line-fresh.ensures at c.put_next-t.ensures in (
      omega arith,
      omega (arith, c.loop-i-test.true),
      omega (arith, i.2, q.few),
      omega (arith, i.3, one_more q),
      wrote_length q.wrote ∙ i.4,
      turn_left p c.get-w.ensures c.loop-i-test.true _ _ _ c.put_next-t.result c.added_space-added.ensures.is i.5 q,
      turn_dashes p c.get-w.ensures c.loop-i-test.true _ _ c.put_next-t.result _ i.6 q,
    )

pub overflow_add-result : goal.overflow_add-result
overflow_add-result c =
    omega (arith, c.loop-i.invariant.2, c.loop-i.invariant.1, c.requires.0.few, c.requires.1, end_count c.put_end.ensures)

pub returns : goal.returns
returns c =
    let i = c.loop-i.invariant in
    let h = c.loop-i-test.false in
    record {
      wrote = left_last (rw (sent_end _ _ _ _ _ _ _ h) at i.5) (wrote_part _ _ _ _ _ _ c.min-place.ensures c.put_end.ensures);
      dashes = omega (arith, i.6, dashes_end c.args.notes.now c.args.table.now c.args.n c.args.l.indent c.loop-i.t.dashed c.loop-i.i h);
      few = omega (arith, i.3, i.1);
    }
