-- `explain::explain_lent` meets its contract.
use mathlib.Core.Path.{ap, ◌∙◌}
use Prim.Native.Nat.{ℕ, max}
use lib.ListN.{length}
use Rattle.options.specs.Opts.{meant}
use Rattle.walk.specs.Work.{work_for}
use Rattle.explain.proofs.Answers.{short_told, lent_ahead, lent_told}
use Rattle.explain.proofs.explain_lent.Goals as goal

pub found-requires : goal.found-requires
unfolding meant
found-requires c =
    let n = c.args.notes in
    lent_ahead (length c.args.work.now) (meant n.block.now n.options) n.bytes.now _ _ (rw c.begin.ensures at c.in-Ok.ensures)

pub returns-in_default : goal.returns-in_default
unfolding meant
returns-in_default c =
    let n = c.args.notes in
    short_told (length c.args.work.now) (meant n.block.now n.options) n.bytes.now _ (rw c.begin.ensures at c.in_default.ensures) (c.work_over-needed.ensures ∙ ap (λ (k : ℕ). max k (work_for (meant n.block.now n.options) n.bytes.now)) c.seek_with.auto.work)

pub returns : goal.returns
unfolding meant
returns c =
    let n = c.args.notes in
    lent_told (length c.args.work.now) (meant n.block.now n.options) n.bytes.now _ _ (rw c.begin.ensures at c.in-Ok.ensures) c.found.ensures
