-- `lines::is_glued` meets its contract, test by test.
use mathlib.Core.Path.{◌≡◌, sym, ◌∙◌}
use mathlib.Core.Bool.{true}
use native.Mathlib.Omega.{arith}
use Rattle.text.specs.Cited.Places.{no_break_at}
use Rattle.text.proofs.NoBreaks.{ahead_moved, ahead_stayed}
use Rattle.lines.proofs.InkBefore.{glued_off, glued_other, glued_edge, glued_ink}
use Rattle.lines.proofs.is_glued.Goals as goal

pub returns-then-not-glue : goal.returns-then-not-glue
returns-then-not-glue c = glued_off _ _ _ _ c.if-not-glue.true

pub returns-then-not-is_no_break : goal.returns-then-not-is_no_break
returns-then-not-is_no_break c = glued_other _ _ _ _ c.if-not-glue.false (sym c.is_no_break.ensures ∙ c.if-not-is_no_break.true)

pub returns-then-glued_end-at : goal.returns-then-glued_end-at
returns-then-glued_end-at c =
    let here : no_break_at c.args.line.now c.args.at ≡ true = sym c.is_no_break.ensures ∙ c.if-not-is_no_break.false in
    let n = here in
    let e = c.glued_end.ensures.0 in
    glued_edge _ _ _ _ c.if-not-glue.false n (ahead_stayed _ _ n (omega (arith, c.if-glued_end-at.true)))

pub returns : goal.returns
returns c =
    let here : no_break_at c.args.line.now c.args.at ≡ true = sym c.is_no_break.ensures ∙ c.if-not-is_no_break.false in
    let n = here in
    let e = c.glued_end.ensures.0 in
    c.has_ink_before.ensures ∙ glued_ink _ _ _ _ c.if-not-glue.false n (ahead_moved _ (λ z. c.if-glued_end-at.false (omega arith)))
