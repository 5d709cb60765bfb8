-- `formatter::write` meets its contract.
use Rattle.std.proofs.lemmas.Result.{err_from_is_err_and}
use Rattle.formatter.specs.Format.{own_room}
use Rattle.formatter.proofs.Replies.{refused_written, passed_written}
use Rattle.formatter.proofs.write.Goals as goal

pub returns-in_err-admitted : goal.returns-in_err-admitted
returns-in_err-admitted c = let p = err_from_is_err_and c.from_residual.result c.from_residual.ensures.1 in rw (p.1, p.2) (refused_written own_room _ _ _ c.admit.ensures.admits _ c.in_err-admitted.was)

pub returns : goal.returns
returns c = passed_written own_room _ _ _ c.admit.ensures.admits _ c.in_ok-admitted.was c.write_notes.ensures
