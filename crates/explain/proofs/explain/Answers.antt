-- `explain::explain` meets its contract.
use Rattle.std.proofs.lemmas.Result.{err_from_is_err_and}
use Rattle.formatter.specs.Format.{own_room}
use Rattle.explain.proofs.Answers.{refused_told, passed_told}
use Rattle.explain.proofs.explain.Goals as goal

pub returns-in_err-admitted : goal.returns-in_err-admitted
returns-in_err-admitted c = let p = err_from_is_err_and c.from_residual.result c.from_residual.ensures.1 in rw (p.1, p.2) (refused_told own_room _ _ _ c.in_err-admitted.ensures.admits)

pub returns : goal.returns
returns c = passed_told own_room _ _ _ c.in_ok-admitted.admitted c.in_ok-admitted.ensures.admits c.explain_line.ensures
