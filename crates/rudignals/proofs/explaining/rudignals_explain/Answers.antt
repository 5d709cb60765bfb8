-- `rudignals::explaining::rudignals_explain` meets its contract.
use Rattle.std.proofs.Common.{Result}
use mathlib.Core.Path.{ap, ◌∙◌}
use Rattle.explain.specs.Explain.{explaining}
use Rattle.lists.specs.Coded.{numbered}
use Rattle.formatter.specs.Format.{own_room}
use Rattle.formatter.proofs.Values.{own_room_sound}
use Rattle.endings.specs.declared.Ending.{Ending}
use Rattle.explain.specs.declared.Unexplained.{Unexplained}
use Rattle.explain.specs.Cited.Seeking.{explained_coded, told_reason}
use Rattle.explain.proofs.Values.{told_coded, told_reason_law, told_fits}
use Rattle.rudignals.proofs.explaining.rudignals_explain.Goals as goal

pub tell-requires : goal.tell-requires
tell-requires c = rw c.explain.ensures (told_fits own_room own_room_sound _ _ _)

pub returns : goal.returns
returns c =
    let x = c.explain.ensures in
    (c.tell.ensures.0 ∙ ap (λ (y : Result Ending Unexplained). numbered (explained_coded y)) x ∙ ap numbered (told_coded (explaining own_room _ _ _)), c.tell.ensures.1 ∙ ap (λ (y : Result Ending Unexplained). told_reason y c.args.reason.now) x ∙ told_reason_law _ _)
