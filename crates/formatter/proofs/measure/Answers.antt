-- `formatter::measure` meets its contract.
use Rattle.std.proofs.lemmas.Result.{err_from_is_err_and}
use Rattle.formatter.specs.Format.{own_room}
use Rattle.formatter.proofs.Replies.{refused_measured, passed_measured}
use Rattle.formatter.proofs.measure.Goals as goal

pub returns-in_err-admitted : goal.returns-in_err-admitted
returns-in_err-admitted c = let p = err_from_is_err_and c.from_residual.result c.from_residual.ensures.1 in rw (p.1, p.2) (refused_measured own_room _ _ _ c.admit.ensures.admits c.in_err-admitted.was)

pub returns : goal.returns
returns c = passed_measured own_room _ _ _ c.admit.ensures.admits c.in_ok-admitted.was c.measure_notes.ensures
