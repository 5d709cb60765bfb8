-- `panel::draw_newest` meets its contract. Invariant: the rows drawn and those of the lines left are the panel's.
use native.Mathlib.Omega.{arith}
use Rattle.lines.proofs.Lines.{LineHere, line_lent}
use Rattle.panel.proofs.Panels.{showing_first, showing_last, row_fits, row_blank, showing_next}
use Rattle.panel.proofs.draw_newest.Goals as goal

pub loop-at-init : goal.loop-at-init
loop-at-init c = showing_first _ _ _ _ c.requires.2 c.newest_lines-t.ensures

pub overflow_add-end : goal.overflow_add-end
overflow_add-end c =
    let here : LineHere c.args.digest.now c.loop-at.at c.first_line-line.result = line_lent _ _ _ c.loop-at-test.true c.first_line-line.ensures in
    let h = here in omega (arith, h.shorter, h.within)

pub slice_bounds-draw_row-end : goal.slice_bounds-draw_row-end
slice_bounds-draw_row-end c =
    let here : LineHere c.args.digest.now c.loop-at.at c.first_line-line.result = line_lent _ _ _ c.loop-at-test.true c.first_line-line.ensures in
    let h = here in omega (arith, h.shorter, h.within)

pub slice_bounds-draw_row-end-in-loop-at : goal.slice_bounds-draw_row-end-in-loop-at
slice_bounds-draw_row-end-in-loop-at c =
    let here : LineHere c.args.digest.now c.loop-at.at c.first_line-line.result = line_lent _ _ _ c.loop-at-test.true c.first_line-line.ensures in
    let f = row_fits _ _ _ _ _ _ c.loop-at.invariant here in
    omega (arith, c.loop-at.invariant.size)

pub draw_row-requires : goal.draw_row-requires
draw_row-requires c =
    let here : LineHere c.args.digest.now c.loop-at.at c.first_line-line.result = line_lent _ _ _ c.loop-at-test.true c.first_line-line.ensures in
    let p = c.requires in
    (p.0, p.1, row_blank _ _ _ _ _ _ c.loop-at.invariant here)

pub overflow_add-at : goal.overflow_add-at
overflow_add-at c =
    let here : LineHere c.args.digest.now c.loop-at.at c.first_line-line.result = line_lent _ _ _ c.loop-at-test.true c.first_line-line.ensures in
    let h = here in omega (arith, h.within)

pub loop-at-smaller : goal.loop-at-smaller
loop-at-smaller c =
    let here : LineHere c.args.digest.now c.loop-at.at c.first_line-line.result = line_lent _ _ _ c.loop-at-test.true c.first_line-line.ensures in
    let h = here in omega (arith, h.on, h.within)

pub loop-at-preserved : goal.loop-at-preserved
loop-at-preserved c =
    let here : LineHere c.args.digest.now c.loop-at.at c.first_line-line.result = line_lent _ _ _ c.loop-at-test.true c.first_line-line.ensures in
    showing_next _ _ _ _ _ _ c.loop-at.invariant
    here _ c.draw_row.ensures

pub returns : goal.returns
returns c = showing_last _ _ _ _ _ c.loop-at.invariant c.loop-at-test.false
