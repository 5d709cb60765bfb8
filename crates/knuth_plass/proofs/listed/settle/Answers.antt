-- `knuth_plass::listed::settle` meets its contract. One law for each way through it: one break more, nothing new, begin again.
use native.Mathlib.Omega.{arith}
use mathlib.Core.Path.{ap, ◌∙◌}
use Rattle.knuth_plass.specs.Cited.Round.{lessened}
use Rattle.knuth_plass.proofs.Settling.{settles_restart, settles_none, settles_offer}
use Rattle.knuth_plass.proofs.listed.settle.Goals as goal

pub returns-then-best-lt-NOTHING : goal.returns-then-best-lt-NOTHING
returns-then-best-lt-NOTHING c =
    settles_offer c.args.r.now.goals.setting _ _ _ _ _ c.args.r.now.turns c.requires c.args.r.now.goals.limits c.if-best-lt-NOTHING.true _ c.bits_of.ensures _ _ c.append.ensures.0 c.append.ensures.1

pub returns-then-kept-gt0 : goal.returns-then-kept-gt0
returns-then-kept-gt0 c =
    settles_none c.args.r.now.goals.setting _ _ _ _ _ c.args.r.now.turns c.requires c.if-best-lt-NOTHING.false c.if-kept-gt0.true

pub returns : goal.returns
returns c =
    let is = c.lessened-least.ensures ∙ ap (lessened c.args.st.reduction) c.get_break.ensures in
    let none = c.if-kept-gt0.false in
    settles_restart c.args.r.now.goals.setting _ _ _ _ _ c.args.r.now.turns c.requires _ _ _ _ c.if-best-lt-NOTHING.false (omega arith) is c.restarted.ensures c.append-2.ensures.0 c.append-2.ensures.1
