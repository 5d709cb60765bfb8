-- `explain::explain_line` meets its contract.
use Rattle.std.proofs.lemmas.Result.{err_from_is_err_and}
use Rattle.formatter.specs.Format.{most_bytes}
use Rattle.explain.proofs.Answers.{stopped_told, all_ahead, all_told}
use Rattle.explain.proofs.explain_line.Goals as goal

pub found-requires : goal.found-requires
found-requires c = all_ahead _ _ _ _ _ (rw c.begin.ensures at c.in_ok-a.ensures)

pub returns-in_err-a : goal.returns-in_err-a
returns-in_err-a c =
    let p = err_from_is_err_and c.from_residual.result c.from_residual.ensures.1 in
    rw (p.1, p.2) (stopped_told _ _ _ _ most_bytes (rw c.begin.ensures at c.in_err-a.ensures))

pub returns : goal.returns
returns c = all_told _ _ _ _ _ (rw c.begin.ensures at c.in_ok-a.ensures) most_bytes c.found.ensures
