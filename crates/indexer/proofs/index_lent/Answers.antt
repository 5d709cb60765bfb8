-- `indexer::index_lent` meets its contract.
use mathlib.Core.Path.{◌∙◌}
use native.Mathlib.Nat.{zero-max}
use native.Mathlib.Omega.{arith}
use lib.ListN.{length}
use Rattle.options.specs.Opts.{meant}
use Rattle.walk.specs.Work.{work_for}
use Rattle.indexer.proofs.Answers.{need_is, lent_fits, lent_refused, lent_indexes}
use Rattle.indexer.proofs.index_lent.Goals as goal

pub overflow_add-result : goal.overflow_add-result
overflow_add-result c =
    let n = c.args.notes in
    record { fits = lent_fits (meant n.block.now n.options) n.bytes.now c.marks_for-marks.ensures (c.work_over.ensures ∙ zero-max (work_for (meant n.block.now n.options) n.bytes.now)) n.admitted.short }

pub returns-in_default : goal.returns-in_default
returns-in_default c =
    let n = c.args.notes in
    lent_refused (meant n.block.now n.options) n.bytes.now _ _ (length c.args.work.now) _ _ c.marks_for-marks.ensures _ _ (c.work_over.ensures ∙ zero-max (work_for (meant n.block.now n.options) n.bytes.now)) (omega (arith, c.in_default.ensures))

pub overflow_add-result-then-rest-needed : goal.overflow_add-result-then-rest-needed
overflow_add-result-then-rest-needed c =
    let n = c.args.notes in
    record { fits = lent_fits (meant n.block.now n.options) n.bytes.now c.marks_for-marks.ensures (need_is _ _ _ c.work_over-needed.ensures c.if-rest-needed.true) n.admitted.short }

pub returns-then-rest-needed : goal.returns-then-rest-needed
returns-then-rest-needed c =
    let n = c.args.notes in
    lent_refused (meant n.block.now n.options) n.bytes.now _ _ (length c.args.work.now) _ _ c.marks_for-marks.ensures _ _ (need_is _ _ _ c.work_over-needed.ensures c.if-rest-needed.true) (omega (arith, c.if-rest-needed.true, c.in-Some.ensures))

pub returns : goal.returns
unfolding meant
returns c =
    let n = c.args.notes in
    let e = c.in-Some.ensures in
    lent_indexes (meant n.block.now n.options) n.bytes.now _ _ (length c.args.work.now) _ c.work_over-needed.result c.marks_for-marks.ensures e.0 (rw e.1 at c.work_over-needed.ensures) (omega (arith, c.if-rest-needed.false, e.1)) c.index_with.ensures
