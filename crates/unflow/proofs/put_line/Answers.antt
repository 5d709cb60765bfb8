-- `unflow::put_line` meets its contract.
use mathlib.Core.Bool.{not}
use native.Mathlib.Omega.{arith}
use Rattle.output.proofs.Sink.{wrote_part}
use Rattle.unflow.proofs.Puts.{line_placed, wrote_start, wrote_end, wrote_content}
use Rattle.unflow.proofs.put_line.Goals as goal

pub overflow_add-m : goal.overflow_add-m
overflow_add-m c = omega (arith, wrote_start c.args.line.now c.args.l c.args.going c.args.depth c.requires.0 c.put_start-k.ensures, wrote_content c.args.line.now c.args.l.start c.requires.0.within c.put_text.ensures, c.requires.1)

pub overflow_add-result : goal.overflow_add-result
overflow_add-result c = omega (arith, wrote_start c.args.line.now c.args.l c.args.going c.args.depth c.requires.0 c.put_start-k.ensures, wrote_content c.args.line.now c.args.l.start c.requires.0.within c.put_text.ensures, wrote_end (not c.args.l.soft) c.put_end.ensures, c.requires.1)

pub returns : goal.returns
returns c =
    line_placed _ _ _ _ c.requires.0 c.put_start-k.ensures
    (wrote_part _ _ _ _ _ _ c.min-place.ensures c.put_text.ensures)
    (wrote_part _ _ _ _ _ _ c.min-behind.ensures c.put_end.ensures)
