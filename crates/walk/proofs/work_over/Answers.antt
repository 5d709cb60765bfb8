-- `walk::work_over` meets its contract.
use Rattle.walk.proofs.Steps.{ready_usable, ready_cleared}
use Rattle.walk.proofs.work_over.Goals as goal

pub work_with-requires : goal.work_with-requires
work_with-requires c = let a = c.args.notes.admitted in (a.short, ready_usable _ _ _ a, ready_cleared _ _ _ a)
