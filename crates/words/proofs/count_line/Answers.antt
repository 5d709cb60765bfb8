-- `words::count_line` meets its contract. Invariant: the words counted, with those of what is left of the line, are all the words.
use mathlib.Core.Path.{ap}
use borrow.Author.Tests.{not-true}
use native.Mathlib.Omega.{arith}
use lib.ListN.{length}
use Rattle.options.specs.Opts.{meant}
use Rattle.words.proofs.Taking.{taken_count}
use Rattle.words.proofs.count_line.Goals as goal

pub returns-then-not-r : goal.returns-then-not-r
unfolding meant
returns-then-not-r c =
    let t = c.split_some-r.ensures in
    let i = c.loop-o.invariant in
    let d = t.done (not-true _ c.if-not-r.true) in
    (omega (arith, taken_count t, ap length d.0, i.2), omega (arith, i.1, t.gained, t.to))

pub loop-o-preserved : goal.loop-o-preserved
unfolding meant
loop-o-preserved c =
    let t = c.split_some-r.ensures in
    let i = c.loop-o.invariant in
    (t.to, omega (arith, i.1, t.gained), omega (arith, taken_count t, i.2), t.ink, t.kept.held)
