-- `flow::send_enough` meets its contract.
use mathlib.Core.Path.{refl}
use native.Mathlib.Omega.{arith}
use lib.ListN.{length}
use Rattle.options.specs.Opts.{meant}
use Rattle.flow.proofs.Course.{mailed_quick}
use Rattle.flow.proofs.Answered.{never_stopped, done_sent, short_sent}
use Rattle.flow.proofs.send_enough.Goals as goal

pub returns-in_err-sent : goal.returns-in_err-sent
returns-in_err-sent c =
    never_stopped (length c.args.work.now) (meant c.args.block.now c.args.o) c.args.notes.now c.args.out.now (mailed_quick _ _ _ c.requires.0) refl c.requires.1 _ c.send_pieces.result c.send_pieces.ensures c.requires.0.admitted.short c.in_err-sent.was

pub returns-then-sent-min : goal.returns-then-sent-min
returns-then-sent-min c =
    done_sent (length c.args.work.now) (meant c.args.block.now c.args.o) c.args.notes.now c.args.out.now (mailed_quick _ _ _ c.requires.0) refl c.requires.1 _ c.send_pieces.result c.send_pieces.ensures c.requires.0.admitted.short c.in_ok-sent.was (omega arith) (omega arith)

pub returns-else-sent-min : goal.returns-else-sent-min
returns-else-sent-min c =
    short_sent (length c.args.work.now) (meant c.args.block.now c.args.o) c.args.notes.now c.args.out.now (mailed_quick _ _ _ c.requires.0) refl c.requires.1 _ c.send_pieces.result c.send_pieces.ensures c.requires.0.admitted.short c.in_ok-sent.was (omega arith) (omega arith) (c.fill.ensures.after (λ y e. e))
