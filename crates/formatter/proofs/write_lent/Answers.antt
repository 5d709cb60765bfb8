-- `formatter::write_lent` meets its contract.
use Rattle.std.proofs.lemmas.Result.{err_from_is_err_and}
use Rattle.formatter.proofs.Replies.{lent_refused_written, lent_passed_written}
use Rattle.formatter.proofs.write_lent.Goals as goal

pub returns-in_err-admitted : goal.returns-in_err-admitted
returns-in_err-admitted c = let p = err_from_is_err_and c.from_residual.result c.from_residual.ensures.1 in rw (p.1, p.2) (lent_refused_written _ _ _ _ c.admit_lent.ensures.admits _ c.in_err-admitted.was)

pub returns : goal.returns
returns c = lent_passed_written _ _ _ _ c.admit_lent.ensures.admits _ c.in_ok-admitted.was c.write_large.ensures
