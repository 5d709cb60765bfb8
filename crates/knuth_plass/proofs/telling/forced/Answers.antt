-- `knuth_plass::telling::forced` meets its contract.
use mathlib.Core.Path.{sym, ap, ◌∙◌}
use Rattle.knuth_plass.specs.Cited.Round.{lessened}
use Rattle.knuth_plass.proofs.Makers.{forced_is}
use Rattle.knuth_plass.proofs.telling.forced.Goals as goal

pub returns-then-b : goal.returns-then-b
returns-then-b c =
    forced_is c.args.r.now.goals.setting c.args.r.now.turn _ _ _ _ _ c.restarted-b.ensures (c.lessened-least.ensures ∙ ap (lessened c.args.st.reduction) c.get_break.ensures) (sym (rw c.if-b.true))

pub returns-else-b : goal.returns-else-b
returns-else-b c =
    forced_is c.args.r.now.goals.setting c.args.r.now.turn _ _ _ _ _ c.restarted-b.ensures (c.lessened-least.ensures ∙ ap (lessened c.args.st.reduction) c.get_break.ensures) (sym (rw c.if-b.false))
