-- `panel::draw_row` meets its contract. Invariant: what is left to draw gives the row that the whole line gives.
use mathlib.Core.Path.{sym, ◌∙◌}
use native.Mathlib.Omega.{arith}
use Rattle.panel.proofs.Turns.{SignHere, sign_here, drawing_first, drawing_last, drawing_next, drawing_over}
use Rattle.panel.proofs.draw_row.Goals as goal

pub loop-at-init : goal.loop-at-init
loop-at-init c = drawing_first _ _ _ c.requires.2

pub returns-in_default : goal.returns-in_default
returns-in_default c =
    let here : SignHere c.args.line.now c.loop-at.at c.sign_at-seen.result = sign_here _ _ _ c.loop-at-test.true c.sign_at-seen.ensures in
    c.mark_over.ensures
    ∙ drawing_over _ _ _ _ _ c.requires.0
    c.loop-at.invariant _
    here _
    c.draw_sign.ensures.1
    (sym c.in_default.is ∙ c.draw_sign.ensures.0)

pub loop-at-smaller : goal.loop-at-smaller
loop-at-smaller c =
    let here : SignHere c.args.line.now c.loop-at.at c.sign_at-seen.result = sign_here _ _ _ c.loop-at-test.true c.sign_at-seen.ensures in
    let h = here in let o = h.on in let w = h.within in omega arith

pub loop-at-preserved : goal.loop-at-preserved
loop-at-preserved c =
    let here : SignHere c.args.line.now c.loop-at.at c.sign_at-seen.result = sign_here _ _ _ c.loop-at-test.true c.sign_at-seen.ensures in
    drawing_next _ _ _ _ _ c.requires.0
    c.loop-at.invariant _ here _
    c.draw_sign.ensures.1 _
    (sym c.in-Some.is ∙ c.draw_sign.ensures.0)

pub returns : goal.returns
returns c = drawing_last _ _ _ _ _ c.loop-at.invariant c.loop-at-test.false
