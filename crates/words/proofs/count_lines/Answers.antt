-- `words::count_lines` meets its contract. Invariant: the words counted, with those of the lines that are left, are all the words.
use mathlib.Core.Path.{ap}
use mathlib.Core.List.{[]}
use native.Mathlib.Omega.{arith}
use lib.ListN.{length, length-append}
use lib.Seq.{slice}
use borrow.Author.Rules.{rules}
use Rattle.options.specs.Opts.{meant}
use Rattle.lines.specs.Lines.{lines_of}
use Rattle.words.proofs.Rows.{begins_within, line_read, lines_end, words_same}
use Rattle.words.proofs.count_lines.Goals as goal

pub loop-i-init : goal.loop-i-init
unfolding meant
loop-i-init c = (c.requires.0, omega arith, c.requires.5, omega arith)

pub begin-requires : goal.begin-requires
begin-requires c =
    let a = c.args in
    let l = c.loop-i in
    let b = begins_within (meant [] a.o) a.mail l.skip a.later a.notes.now a.next l.i c.loop-i-test.true c.requires.1 l.invariant.2 in
    λ m. omega (arith, b.0 m)

pub overflow_add-i : goal.overflow_add-i
overflow_add-i c =
    let a = c.args in
    let l = c.loop-i in
    let line = line_read (meant [] a.o) a.mail l.skip a.later a.notes.now a.next l.i c.loop-i-test.true c.requires.1 l.invariant.2 _ c.first_line-line.ensures in
    omega (arith, line.shorter, line.within)

pub count_line-n-requires : goal.count_line-n-requires
unfolding meant
count_line-n-requires c =
    let a = c.args in
    let l = c.loop-i in
    let line = line_read (meant [] a.o) a.mail l.skip a.later a.notes.now a.next l.i c.loop-i-test.true c.requires.1 l.invariant.2 _ c.first_line-line.ensures in
    (omega (arith, line.begins), omega (arith, line.shorter, line.within), c.requires.2, search rules, search rules, omega arith, λ m. rw c.begin.ensures (line.ink m), omega arith)

pub overflow_add-i-in-loop-i : goal.overflow_add-i-in-loop-i
overflow_add-i-in-loop-i c =
    let a = c.args in
    let l = c.loop-i in
    let line = line_read (meant [] a.o) a.mail l.skip a.later a.notes.now a.next l.i c.loop-i-test.true c.requires.1 l.invariant.2 _ c.first_line-line.ensures in
    omega (arith, line.within)

pub loop-i-smaller : goal.loop-i-smaller
loop-i-smaller c =
    let a = c.args in
    let l = c.loop-i in
    let line = line_read (meant [] a.o) a.mail l.skip a.later a.notes.now a.next l.i c.loop-i-test.true c.requires.1 l.invariant.2 _ c.first_line-line.ensures in
    omega (arith, line.on, line.within)

pub loop-i-preserved : goal.loop-i-preserved
unfolding meant
loop-i-preserved c =
    let a = c.args in
    let l = c.loop-i in
    let i = l.invariant in
    let n = c.count_line-n.ensures in
    let line = line_read (meant [] a.o) a.mail l.skip a.later a.notes.now a.next l.i c.loop-i-test.true c.requires.1 i.2 _ c.first_line-line.ensures in
    let w = rw length-append at (ap length line.words) in
    (line.within, omega (arith, n.1, line.shorter), line.rest, omega (arith, rw c.begin.ensures at n.0, w, i.3))

pub returns : goal.returns
returns c = λ block.
    let a = c.args in
    let l = c.loop-i in
    let z = ap length (lines_end (meant [] a.o) a.mail l.skip a.later a.notes.now a.next l.i c.loop-i-test.false) in
    let s = ap length (words_same a.o block a.mail a.start a.later (lines_of (slice a.at a.next a.notes.now))) in
    omega (arith, z, s, l.invariant.3)
