-- `flow::send_large` meets its contract.
use lib.ListN.{length}
use Rattle.flow.proofs.Course.{ready_usable, ready_cleared}
use Rattle.flow.proofs.Answered.{work_answer}
use Rattle.flow.proofs.send_large.Goals as goal

pub work_with-needed-requires : goal.work_with-needed-requires
work_with-needed-requires c = let p = c.requires in (p.admitted.short, ready_usable _ _ _ p, ready_cleared _ _ _ p)

pub returns-then-lends-needed : goal.returns-then-lends-needed
returns-then-lends-needed c =
    work_answer (length c.args.work.now) _ _ _ _ c.requires.admitted.short c.work_with-needed.ensures c.if-lends-needed.true
