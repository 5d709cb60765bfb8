-- `fold::put_lines` meets its contract. Invariant: what is left to be written behind what is written gives the whole.
use native.Mathlib.Omega.{arith}
use Rattle.lines.proofs.Lines.{LineHere, line_lent}
use Rattle.output.proofs.Sink.{wrote_part}
use Rattle.fold.proofs.Texts.{lent_length, passing_line, passing_last}
use Rattle.fold.proofs.put_lines.Goals as goal

pub overflow_add-end : goal.overflow_add-end
overflow_add-end c =
    let here : LineHere c.args.text.now c.loop-at.at c.first_line-extent.result = line_lent _ _ _ c.loop-at-test.true c.first_line-extent.ensures in
    let h = here in omega (arith, h.within)

pub slice_bounds-put_line-end : goal.slice_bounds-put_line-end
slice_bounds-put_line-end c =
    let here : LineHere c.args.text.now c.loop-at.at c.first_line-extent.result = line_lent _ _ _ c.loop-at-test.true c.first_line-extent.ensures in
    let h = here in omega (arith, h.within)

pub put_line-k-requires : goal.put_line-k-requires
put_line-k-requires c =
    let here : LineHere c.args.text.now c.loop-at.at c.first_line-extent.result = line_lent _ _ _ c.loop-at-test.true c.first_line-extent.ensures in
    let h = here in let n = lent_length 0 0 _ _ _ h in let p = c.requires in (omega (arith, n, h.shorter), omega (arith, n, h.within, p.0), p.1, p.2, p.3)

pub loop-at-smaller : goal.loop-at-smaller
loop-at-smaller c =
    let here : LineHere c.args.text.now c.loop-at.at c.first_line-extent.result = line_lent _ _ _ c.loop-at-test.true c.first_line-extent.ensures in
    let h = here in omega (arith, h.on, h.within)

pub loop-at-preserved : goal.loop-at-preserved
loop-at-preserved c =
    let here : LineHere c.args.text.now c.loop-at.at c.first_line-extent.result = line_lent _ _ _ c.loop-at-test.true c.first_line-extent.ensures in
    passing_line _ _ _ c.loop-at.invariant here c.put_line-k.ensures.1 (wrote_part _ _ _ _ _ _ c.min-place.ensures c.put_line-k.ensures.0)

pub returns : goal.returns
returns c = passing_last _ _ _ c.loop-at.invariant c.loop-at-test.false
