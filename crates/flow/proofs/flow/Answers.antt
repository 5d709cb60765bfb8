-- `flow::flow` meets its contract.
use Rattle.std.proofs.lemmas.Result.{err_from_is_err_and}
use mathlib.Core.Path.{sym, ◌∙◌}
use native.Mathlib.Omega.{arith}
use Rattle.formatter.specs.Format.{own_room}
use Rattle.formatter.proofs.Values.{own_room_sound}
use Rattle.flow.proofs.Answered.{unfit_answer, refused_answer, passed_ready, passed_answer}
use Rattle.flow.proofs.flow.Goals as goal

pub returns-then-is_unfit : goal.returns-then-is_unfit
returns-then-is_unfit c =
    unfit_answer own_room own_room_sound _ _ _ (sym c.is_unfit.ensures ∙ c.if-is_unfit.true) (omega (arith, c.well_formed.0.1))

pub returns-in_err-admitted : goal.returns-in_err-admitted
returns-in_err-admitted c =
    let p = err_from_is_err_and c.from_residual.result c.from_residual.ensures.1 in
    rw (p.1, p.2) (refused_answer own_room own_room_sound _ _ (sym c.is_unfit.ensures ∙ c.if-is_unfit.false) _ c.admit.ensures.admits c.in_err-admitted.was)

pub send_notes-requires : goal.send_notes-requires
send_notes-requires c =
    rw c.mailed.ensures (passed_ready own_room own_room_sound _ _ (sym c.is_unfit.ensures ∙ c.if-is_unfit.false) c.admit.ensures.admits c.in_ok-admitted.was)

pub returns : goal.returns
returns c =
    passed_answer own_room own_room_sound _ _ (sym c.is_unfit.ensures ∙ c.if-is_unfit.false) c.admit.ensures.admits c.in_ok-admitted.was _ _ (rw c.mailed.ensures at c.send_notes.ensures)
