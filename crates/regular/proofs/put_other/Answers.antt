-- `regular::put_other` meets its contract.
use native.Mathlib.Omega.{arith}
use Rattle.options.specs.Opts.{meant}
use Rattle.regular.proofs.Going.{line_of, row_worded}
use Rattle.regular.proofs.put_other.Goals as goal

pub begin-start-requires : goal.begin-start-requires
begin-start-requires c =
    let line = line_of c.args.o c.args.mail c.args.skip c.args.later c.args.s.now c.args.next c.args.i _ c.requires.0 c.requires.1 c.requires.5 c.first_line-line.ensures in
    let h = c.requires in λ m. omega (arith, line.starts m, line.shorter, line.within, h.1, h.2)

pub overflow_add-end : goal.overflow_add-end
overflow_add-end c =
    let line = line_of c.args.o c.args.mail c.args.skip c.args.later c.args.s.now c.args.next c.args.i _ c.requires.0 c.requires.1 c.requires.5 c.first_line-line.ensures in
    let h = c.requires in omega (arith, line.shorter, line.within, h.1, h.2)

pub put_words-requires : goal.put_words-requires
unfolding meant
put_words-requires c =
    let line = line_of c.args.o c.args.mail c.args.skip c.args.later c.args.s.now c.args.next c.args.i _ c.requires.0 c.requires.1 c.requires.5 c.first_line-line.ensures in
    let h = c.requires in
    let e = c.begin-start.ensures in
    (omega (arith, line.begins, e), omega (arith, line.shorter, line.within, h.1), h.2, h.3, h.4, λ m. rw e (line.ink m), h.6, h.7, h.8, h.9, h.10, h.11)

pub overflow_add-result : goal.overflow_add-result
overflow_add-result c =
    let line = line_of c.args.o c.args.mail c.args.skip c.args.later c.args.s.now c.args.next c.args.i _ c.requires.0 c.requires.1 c.requires.5 c.first_line-line.ensures in
    let h = c.requires in omega (arith, line.within, h.1, h.2)

pub returns : goal.returns
returns c =
    let line = line_of c.args.o c.args.mail c.args.skip c.args.later c.args.s.now c.args.next c.args.i _ c.requires.0 c.requires.1 c.requires.5 c.first_line-line.ensures in
    row_worded _ _ _ _ _ _ _ _ _ _ _ _ line _ c.begin-start.ensures _ _ c.put_words.ensures
