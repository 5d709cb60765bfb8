-- `regular::row_at` meets its contract.
use mathlib.Core.Path.{refl}
use mathlib.Core.List.{[]}
use native.Mathlib.Omega.{arith}
use lib.Seq.{slice}
use Rattle.options.specs.Opts.{meant}
use Rattle.lines.specs.Lines.{first_line}
use Rattle.lines.specs.Cited.Places.{lengths_of}
use Rattle.regular.proofs.Rows.{row_begins, row_is}
use Rattle.regular.proofs.Pairs.{row_on, row_spelled, row_columns}
use Rattle.regular.proofs.row_at.Goals as goal

pub overflow_add-from : goal.overflow_add-from
unfolding meant
overflow_add-from c =
    let p = c.requires in
    let b = row_begins (meant [] c.args.o) c.args.skip c.args.later c.args.s.now c.args.next c.args.i (lengths_of (first_line (slice c.args.i c.args.next c.args.s.now))) p.0 p.1 refl p.3 in
    omega (arith, b.0, b.1, b.2, p.1, p.2)

pub regular_end-at-requires : goal.regular_end-at-requires
unfolding meant
regular_end-at-requires c =
    let p = c.requires in
    let b = row_begins (meant [] c.args.o) c.args.skip c.args.later c.args.s.now c.args.next c.args.i (lengths_of (first_line (slice c.args.i c.args.next c.args.s.now))) p.0 p.1 refl p.3 in
    (omega (arith, b.0, b.1, b.2), p.1)

pub overflow_sub-result-2 : goal.overflow_sub-result-2
overflow_sub-result-2 c =
    let counted = row_columns _ _ _ _ c.requires.1 c.regular_end-at.ensures _ c.letters_after-letters.ensures _ c.before_spaces-end.ensures in
    omega (arith, counted)

pub returns : goal.returns
unfolding meant
returns c = λ block.
    let counted = row_columns _ _ _ _ c.requires.1 c.regular_end-at.ensures _ c.letters_after-letters.ensures _ c.before_spaces-end.ensures in
    let p = c.requires in
    let regular = c.regular_end-at.ensures in
    let letters = c.letters_after-letters.ensures in
    row_is (meant block c.args.o) c.args.skip c.args.later c.args.s.now c.args.next c.args.i _ p.0 p.1 refl p.3
    _ (row_on _ _ _ _ p.1 regular _ letters) letters.most (row_spelled _ _ _ _ p.1 regular _ letters) (c.ends_line.ensures c.if-not-ends_line.false) _ c.behind_line.ensures _ c.before_spaces-end.ensures _ (omega (arith, counted)) (c.are_as_written.ensures c.if-not-are_as_written.false)
