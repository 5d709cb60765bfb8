-- `rudignals::explaining::rudignals_explain_large` meets its contract.
use Rattle.std.proofs.Common.{Result}
use mathlib.Core.Path.{ap, ◌∙◌}
use Rattle.formatter.specs.Work.{lending}
use Rattle.explain.specs.Explain.{explaining}
use Rattle.lists.specs.Coded.{numbered}
use Rattle.formatter.proofs.Work.{lending_sound}
use Rattle.endings.specs.declared.Ending.{Ending}
use Rattle.explain.specs.declared.Unexplained.{Unexplained}
use Rattle.explain.specs.Cited.Seeking.{explained_coded, told_reason}
use Rattle.explain.proofs.Values.{told_coded, told_reason_law, told_fits}
use Rattle.rudignals.proofs.explaining.rudignals_explain_large.Goals as goal

pub tell-requires : goal.tell-requires
tell-requires c = rw c.explain_large.ensures (told_fits _ (lending_sound _) _ _ _)

pub returns : goal.returns
returns c =
    let x = c.explain_large.ensures in
    (c.tell.ensures.0 ∙ ap (λ (y : Result Ending Unexplained). numbered (explained_coded y)) x ∙ ap numbered (told_coded (explaining (lending _) _ _ _)), c.tell.ensures.1 ∙ ap (λ (y : Result Ending Unexplained). told_reason y c.args.reason.now) x ∙ told_reason_law _ _)
