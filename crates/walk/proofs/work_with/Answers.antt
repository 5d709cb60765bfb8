-- `walk::work_with` meets its contract. Invariant: the greatest need so far, with those of the pieces that are left, is that of all.
use mathlib.Core.Path.{sym, ap, ◌∙◌}
use Prim.Native.Nat.{max}
use native.Mathlib.Omega.{arith}
use Rattle.options.specs.Opts.{meant}
use Rattle.walk.proofs.Work.{work_half}
use Rattle.walk.proofs.Steps.{usable_goes}
use Rattle.walk.proofs.Lent.{work_first, work_last, work_on, work_line, text_begins, text_half, text_work}
use Rattle.walk.proofs.work_with.Goals as goal

pub returns-then-numbers_for-lent : goal.returns-then-numbers_for-lent
unfolding meant
returns-then-numbers_for-lent c = let a = c.args in let h = work_half (meant a.block.now a.o) a.notes.now in omega (arith, h, c.numbers_for.ensures, c.if-numbers_for-lent.true)

pub loop-at-init : goal.loop-at-init
loop-at-init c = (omega arith, work_first _ _ _)

pub loop-at-preserved-in-Blank : goal.loop-at-preserved-in-Blank
loop-at-preserved-in-Blank c =
    let m = usable_goes _ _ _ c.requires.1 c.requires.2 c.requires.0 _ _ _ _ c.loop-at-test.true c.next_piece.ensures c.in-Blank.is in (m.within, work_line _ _ _ _ _ (omega arith) m ∙ c.loop-at.invariant.1)

pub loop-at-preserved-in-Plain : goal.loop-at-preserved-in-Plain
loop-at-preserved-in-Plain c =
    let m = usable_goes _ _ _ c.requires.1 c.requires.2 c.requires.0 _ _ _ _ c.loop-at-test.true c.next_piece.ensures c.in-Plain.is in (m.0.within, work_line _ _ _ _ _ (omega arith) m.0 ∙ c.loop-at.invariant.1)

pub with_paragraph-most-requires : goal.with_paragraph-most-requires
with_paragraph-most-requires c =
    let r = c.requires in
    let m = usable_goes _ _ _ c.requires.1 c.requires.2 c.requires.0 _ _ _ _ c.loop-at-test.true c.next_piece.ensures c.in-Text.is in
    (omega (arith, m.bounds.on), m.bounds.within, r.0, r.1.least, r.1.most, text_begins _ _ _ _ _ _ m, text_half _ _ _ _ _ _ m)

pub loop-at-preserved : goal.loop-at-preserved
loop-at-preserved c =
    let m = usable_goes _ _ _ c.requires.1 c.requires.2 c.requires.0 _ _ _ _ c.loop-at-test.true c.next_piece.ensures c.in-Text.is in
    let a = c.args in
    let e = c.with_paragraph-most.ensures a.block.now in
    (m.goes.within, work_on _ _ _ _ _ (e ∙ ap (max c.loop-at.most) (sym (text_work _ _ _ _ _ _ m))) m.goes ∙ c.loop-at.invariant.1)

pub returns : goal.returns
returns c = let i = c.loop-at.invariant in sym (work_last _ _ _ _ _ (omega (arith, c.loop-at-test.false))) ∙ i.1
