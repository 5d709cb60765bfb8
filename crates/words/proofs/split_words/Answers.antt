-- `words::split_words` meets its contract. Invariant: the words in the table, with those of the lines that are left, are all the words.
use Rattle.std.proofs.lemmas.Result.{err_from_is_err_and}
use mathlib.Core.List.{[]}
use native.Mathlib.Omega.{arith}
use lib.Seq.{slice}
use borrow.Author.Rules.{rules}
use Rattle.options.specs.Opts.{meant}
use Rattle.lines.specs.Lines.{lines_of}
use Rattle.words.proofs.Filling.{filling_none, filling_done}
use Rattle.words.proofs.Rows.{begins_within, lines_end, places_end, filled_words}
use Rattle.words.proofs.LineSplit.{line_split}
use Rattle.words.proofs.split_words.Goals as goal

pub loop-i-init : goal.loop-i-init
unfolding meant
loop-i-init c = (c.requires.0, c.requires.6, filling_none c.requires.5)

pub begin-from-requires : goal.begin-from-requires
begin-from-requires c =
    let a = c.args in
    let l = c.loop-i in
    let b = begins_within (meant [] a.o) a.mail l.skip a.later a.notes.now a.next l.i c.loop-i-test.true c.requires.1 l.invariant.1 in
    λ m. omega (arith, b.0 m)

pub spaced_words-run-requires : goal.spaced_words-run-requires
spaced_words-run-requires c =
    let a = c.args in
    let l = c.loop-i in
    let b = begins_within (meant [] a.o) a.mail l.skip a.later a.notes.now a.next l.i c.loop-i-test.true c.requires.1 l.invariant.1 in
    (omega (arith, b.1), c.requires.1, c.requires.2, search rules, l.invariant.2.kept)

pub overflow_add-on : goal.overflow_add-on
overflow_add-on c =
    let a = c.args in
    let l = c.loop-i in
    let r = c.spaced_words-run in
    let s = line_split (meant [] a.o) a.mail l.skip a.later a.notes.now a.next l.i _ r.result _ c.loop-i-test.true c.requires.1 l.invariant.1 c.begin-from.ensures r.ensures.1 r.ensures.2 r.ensures.3 c.first_line-line.ensures l.invariant.2 in
    omega (arith, s.text)

pub split_line-requires : goal.split_line-requires
unfolding meant
split_line-requires c =
    let a = c.args in
    let l = c.loop-i in
    let r = c.spaced_words-run in
    let s = line_split (meant [] a.o) a.mail l.skip a.later a.notes.now a.next l.i _ r.result _ c.loop-i-test.true c.requires.1 l.invariant.1 c.begin-from.ensures r.ensures.1 r.ensures.2 r.ensures.3 c.first_line-line.ensures l.invariant.2 in
    (omega arith, omega (arith, s.text), c.requires.2, search rules, search rules, r.ensures.0, s.ink)

pub returns-in_err-n : goal.returns-in_err-n
unfolding meant
returns-in_err-n c =
    let a = c.args in
    let l = c.loop-i in
    let r = c.spaced_words-run in
    let s = line_split (meant [] a.o) a.mail l.skip a.later a.notes.now a.next l.i _ r.result _ c.loop-i-test.true c.requires.1 l.invariant.1 c.begin-from.ensures r.ensures.1 r.ensures.2 r.ensures.3 c.first_line-line.ensures l.invariant.2 in
    let p = err_from_is_err_and c.from_residual.result c.from_residual.ensures.1 in
    rw p.1 (filled_words _ _ _ _ _ _ _ _ _ _ (s.over c.in_err-n.ensures))

pub overflow_add-i : goal.overflow_add-i
overflow_add-i c =
    let a = c.args in
    let l = c.loop-i in
    let r = c.spaced_words-run in
    let s = line_split (meant [] a.o) a.mail l.skip a.later a.notes.now a.next l.i _ r.result _ c.loop-i-test.true c.requires.1 l.invariant.1 c.begin-from.ensures r.ensures.1 r.ensures.2 r.ensures.3 c.first_line-line.ensures l.invariant.2 in
    omega (arith, s.within)

pub loop-i-smaller : goal.loop-i-smaller
loop-i-smaller c =
    let a = c.args in
    let l = c.loop-i in
    let r = c.spaced_words-run in
    let s = line_split (meant [] a.o) a.mail l.skip a.later a.notes.now a.next l.i _ r.result _ c.loop-i-test.true c.requires.1 l.invariant.1 c.begin-from.ensures r.ensures.1 r.ensures.2 r.ensures.3 c.first_line-line.ensures l.invariant.2 in
    omega (arith, s.on, s.within)

pub loop-i-preserved : goal.loop-i-preserved
unfolding meant
loop-i-preserved c =
    let a = c.args in
    let l = c.loop-i in
    let r = c.spaced_words-run in
    let s = line_split (meant [] a.o) a.mail l.skip a.later a.notes.now a.next l.i _ r.result _ c.loop-i-test.true c.requires.1 l.invariant.1 c.begin-from.ensures r.ensures.1 r.ensures.2 r.ensures.3 c.first_line-line.ensures l.invariant.2 in
    (s.within, s.rest, s.filling _ _ c.in_ok-n.ensures)

pub returns : goal.returns
unfolding meant
returns c =
    let a = c.args in
    let l = c.loop-i in
    filled_words a.most a.notes.now l.table _ _ a.o a.mail a.start a.later (lines_of (slice a.at a.next a.notes.now))
    (filling_done l.invariant.2
    (lines_end (meant [] a.o) a.mail l.skip a.later a.notes.now a.next l.i c.loop-i-test.false)
    (places_end (meant [] a.o) a.mail l.skip a.later a.notes.now a.next l.i c.loop-i-test.false))
