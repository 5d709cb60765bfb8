-- `unflow::put_paragraphs` meets its contract. Invariant: what is left to be written behind what is written gives the whole.
use mathlib.Core.Path.{◌≡◌}
use Prim.Native.Nat.{min}
use lib.ListN.{length}
use native.Mathlib.Omega.{arith}
use Rattle.lines.proofs.Lines.{LineHere, line_lent}
use Rattle.output.proofs.Sink.{wrote_part}
use Rattle.unflow.proofs.Texts.{lent_short, placed_most, turning_first, turning_line, turning_last}
use Rattle.unflow.proofs.put_paragraphs.Goals as goal

pub loop-at-init : goal.loop-at-init
loop-at-init c = turning_first _ _

pub overflow_add-end : goal.overflow_add-end
overflow_add-end c =
    let here : LineHere c.args.text.now c.loop-at.at c.first_line-extent.result = line_lent _ _ _ c.loop-at-test.true c.first_line-extent.ensures in
    omega (arith, here.shorter, here.within)

pub slice_bounds-take_apart-end : goal.slice_bounds-take_apart-end
slice_bounds-take_apart-end c =
    let here : LineHere c.args.text.now c.loop-at.at c.first_line-extent.result = line_lent _ _ _ c.loop-at-test.true c.first_line-extent.ensures in
    omega (arith, here.shorter, here.within)

pub overflow_add-k : goal.overflow_add-k
overflow_add-k c =
    let here : LineHere c.args.text.now c.loop-at.at c.first_line-extent.result = line_lent _ _ _ c.loop-at-test.true c.first_line-extent.ensures in
    omega (arith, c.put_line-k.ensures.count, placed_most _ _ c.take_apart-l.ensures c.loop-at.going c.loop-at.depth, lent_short _ _ _ here c.requires, c.loop-at.invariant.bounded, c.loop-at.invariant.within, c.requires)

pub overflow_add-at : goal.overflow_add-at
overflow_add-at c =
    let here : LineHere c.args.text.now c.loop-at.at c.first_line-extent.result = line_lent _ _ _ c.loop-at-test.true c.first_line-extent.ensures in
    omega (arith, here.within)

pub loop-at-smaller : goal.loop-at-smaller
loop-at-smaller c =
    let here : LineHere c.args.text.now c.loop-at.at c.first_line-extent.result = line_lent _ _ _ c.loop-at-test.true c.first_line-extent.ensures in
    omega (arith, here.on, here.within)

pub loop-at-preserved : goal.loop-at-preserved
loop-at-preserved c =
    let here : LineHere c.args.text.now c.loop-at.at c.first_line-extent.result = line_lent _ _ _ c.loop-at-test.true c.first_line-extent.ensures in
    let place : c.min-place.result ≡ min c.loop-at.k (length c.loop-at.out) = c.min-place.ensures in
    turning_line c.loop-at.invariant here c.take_apart-l.ensures (wrote_part _ _ _ _ _ _ place c.put_line-k.ensures)

pub returns : goal.returns
returns c =
    let place : c.min-place-2.result ≡ min c.loop-at.k (length c.loop-at.out) = c.min-place-2.ensures in
    turning_last c.loop-at.invariant c.loop-at-test.false (wrote_part _ _ _ _ _ _ place c.put_end.ensures)
