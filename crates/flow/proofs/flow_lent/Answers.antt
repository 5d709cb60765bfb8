-- `flow::flow_lent` meets its contract.
use Rattle.std.proofs.lemmas.Result.{err_from_is_err_and}
use mathlib.Core.Path.{sym, ◌∙◌}
use native.Mathlib.Omega.{arith}
use lib.ListN.{length}
use Rattle.formatter.specs.Work.{lending}
use Rattle.formatter.proofs.Work.{lending_sound}
use Rattle.flow.proofs.Answered.{unfit_answer, refused_answer, passed_ready, passed_answer}
use Rattle.flow.proofs.flow_lent.Goals as goal

pub returns-then-is_unfit : goal.returns-then-is_unfit
returns-then-is_unfit c =
    unfit_answer (lending (length c.args.work.now)) (lending_sound (length c.args.work.now)) _ _ _ (sym c.is_unfit.ensures ∙ c.if-is_unfit.true) (omega (arith, c.well_formed.0.1))

pub returns-in_err-admitted : goal.returns-in_err-admitted
returns-in_err-admitted c =
    let p = err_from_is_err_and c.from_residual.result c.from_residual.ensures.1 in
    rw (p.1, p.2) (refused_answer (lending (length c.args.work.now)) (lending_sound (length c.args.work.now)) _ _ (sym c.is_unfit.ensures ∙ c.if-is_unfit.false) _ (c.admit_within.ensures.admits (lending (length c.args.work.now)).words) c.in_err-admitted.was)

pub send_large-requires : goal.send_large-requires
send_large-requires c =
    rw c.mailed.ensures (passed_ready (lending (length c.args.work.now)) (lending_sound (length c.args.work.now)) _ _ (sym c.is_unfit.ensures ∙ c.if-is_unfit.false) (c.admit_within.ensures.admits (lending (length c.args.work.now)).words) c.in_ok-admitted.was)

pub returns : goal.returns
returns c =
    passed_answer (lending (length c.args.work.now)) (lending_sound (length c.args.work.now)) _ _ (sym c.is_unfit.ensures ∙ c.if-is_unfit.false) (c.admit_within.ensures.admits (lending (length c.args.work.now)).words) c.in_ok-admitted.was _ _ (rw c.mailed.ensures at c.send_large.ensures)
