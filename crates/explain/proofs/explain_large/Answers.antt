-- `explain::explain_large` meets its contract.
use lib.ListN.{length}
use Rattle.std.proofs.lemmas.Result.{err_from_is_err_and}
use Rattle.formatter.specs.Work.{lending}
use Rattle.explain.proofs.Answers.{refused_told, passed_told}
use Rattle.explain.proofs.explain_large.Goals as goal

pub returns-in_err-admitted : goal.returns-in_err-admitted
returns-in_err-admitted c =
    let l = lending (length c.args.work.now) in
    let p = err_from_is_err_and c.from_residual.result c.from_residual.ensures.1 in
    rw (p.1, p.2) (refused_told l _ _ _ (c.in_err-admitted.ensures.admits l.words))

pub returns : goal.returns
returns c = let l = lending (length c.args.work.now) in passed_told l _ _ _ c.in_ok-admitted.admitted (c.in_ok-admitted.ensures.admits l.words) c.explain_lent.ensures
