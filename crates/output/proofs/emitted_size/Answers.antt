-- `output::emitted_size` meets its contract. Invariant: the bytes counted, with those of the words that are left, are all; a word adds less than 2 ^ 34.
use native.Mathlib.Omega.{arith}
use Rattle.output.proofs.Sizes.{word_small, size_turn, size_first, size_last}
use Rattle.output.proofs.emitted_size.Goals as goal

pub loop-i-init : goal.loop-i-init
loop-i-init c =
    let p = c.requires in
    let g = c.get-head.ensures in
    let m = c.margin_size.ensures in
    (omega arith, p.some, omega (arith, m.1, (word_small p g p.some).end), size_first p _ g m.0)

pub loop-i-preserved : goal.loop-i-preserved
loop-i-preserved c =
    let i = c.loop-i.invariant in
    let r = c.placed_size-k.ensures in
    (omega (arith, i.0), omega (arith, c.loop-i-test.true), omega (arith, i.2, r.1), size_turn c.requires c.get-w.ensures c.loop-i-test.true _ _ c.added_space-added.ensures.is c.starts_line.ensures c.margin_size-indent.ensures.0 r.0 i.3)

pub returns : goal.returns
returns c =
    let start = c in
    let i = c.loop-i.invariant in
    (size_last start.requires _ _ _ c.loop-i-test.false i.3, omega (arith, i.1, i.2, start.requires.few))
