-- `checker::match_next` meets its contract.
use Rattle.checker.proofs.Spots.{next_fresh, next_spaced}
use Rattle.checker.proofs.match_next.Goals as goal

pub returns-in-Ok : goal.returns-in-Ok
returns-in-Ok c = next_fresh _ _ _ _ c.args.p c.in-Ok.ensures c.match_behind.ensures

pub returns-in-Err : goal.returns-in-Err
returns-in-Err c = next_spaced _ _ _ _ c.args.p c.in-Err.ensures c.match_spaced.ensures
