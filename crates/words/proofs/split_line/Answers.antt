-- `words::split_line` meets its contract.
use native.Mathlib.Omega.{arith}
use lib.ListN.{take, length-take}
use mathlib.Core.List.{[]}
use Rattle.words.proofs.NextWord.{none_past}
use Rattle.words.proofs.Filling.{filling_first, filling_done}
use Rattle.words.proofs.Taking.{taken_over, taken_all}
use Rattle.options.specs.Opts.{meant}
use Rattle.words.proofs.split_line.Goals as goal

pub returns-then-end-start : goal.returns-then-end-start
unfolding meant
returns-then-end-start c =
    let a = c.args in
    let e = none_past (meant [] a.o) a.mail a.head a.punct (take a.end a.notes.now) a.start (omega (arith, c.if-end-start.true, length-take a.end a.notes.now)) in
    filling_done (filling_first c.requires.5) e.0 e.1

pub returns-then-r : goal.returns-then-r
unfolding meant
returns-then-r c = taken_over c.split_some-r.ensures c.if-r.true

pub returns-else-r : goal.returns-else-r
unfolding meant
returns-else-r c = taken_all c.split_some-r.ensures c.if-r.false
