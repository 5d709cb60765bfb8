-- `formatter::measure_lent` meets its contract.
use Rattle.std.proofs.lemmas.Result.{err_from_is_err_and}
use Rattle.formatter.proofs.Replies.{lent_refused_measured, lent_passed_measured}
use Rattle.formatter.proofs.measure_lent.Goals as goal

pub returns-in_err-admitted : goal.returns-in_err-admitted
returns-in_err-admitted c = let p = err_from_is_err_and c.from_residual.result c.from_residual.ensures.1 in rw (p.1, p.2) (lent_refused_measured _ _ _ _ c.admit_lent.ensures.admits c.in_err-admitted.was)

pub returns : goal.returns
returns c = lent_passed_measured _ _ _ _ c.admit_lent.ensures.admits c.in_ok-admitted.was c.measure_large.ensures
