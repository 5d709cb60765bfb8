-- `unflow::put_start` meets its contract.
use native.Mathlib.Omega.{arith}
use Rattle.output.proofs.Sink.{wrote_part}
use Rattle.unflow.proofs.Puts.{start_joined, start_apart, wrote_end, wrote_spaces, wrote_marks}
use Rattle.unflow.proofs.put_start.Goals as goal

pub returns-then-going-depth : goal.returns-then-going-depth
returns-then-going-depth c = start_joined _ _ _ _ c.requires.0 _ c.if-going-depth.true

pub overflow_add-m : goal.overflow_add-m
overflow_add-m c = omega (arith, wrote_end _ c.put_end-k.ensures, wrote_marks c.args.line.now c.args.l.depth c.put_text.ensures, c.requires.1)

pub overflow_add-result : goal.overflow_add-result
overflow_add-result c =
    omega (arith, wrote_end _ c.put_end-k.ensures, wrote_marks c.args.line.now c.args.l.depth c.put_text.ensures, wrote_spaces c.stuffing_of.result c.put_added.ensures, c.stuffing_of.ensures.1, c.requires.1)

pub returns : goal.returns
returns c =
    start_apart _ _ _ _ c.requires.0 c.stuffing_of.result c.if-going-depth.false c.put_end-k.ensures
    (wrote_part _ _ _ _ _ _ c.min-place.ensures c.put_text.ensures)
    c.stuffing_of.ensures.0
    (wrote_part _ _ _ _ _ _ c.min-behind.ensures c.put_added.ensures)
