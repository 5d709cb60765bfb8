-- `walk::put_lines` meets its contract. Invariant: what is left of the work from the first place on.
use native.Mathlib.Omega.{arith}
use mathlib.Core.Path.{refl}
use Rattle.walk.proofs.Loop.{going_on, going_last}
use Rattle.walk.proofs.Steps.{ready_usable, ready_cleared, ready_sound, found_goes, found_begins, blank_put, plain_put}
use Rattle.walk.proofs.put_lines.Goals as goal

pub next_piece-requires : goal.next_piece-requires
next_piece-requires c =
    let a = c.args.notes.admitted in
    (c.loop-c-test.true, a.short, ready_usable _ _ _ a, ready_cleared _ _ _ a, λ k. (c.loop-c.invariant.0 0).stands.sound (ready_sound _ _ _ a k))

pub emit_line-requires : goal.emit_line-requires
emit_line-requires c =
    let s = (c.loop-c.invariant.0 0).stands in
    let short = c.args.notes.admitted.short in
    (omega arith, s.within, omega (arith, short), omega (arith, short, s.within, s.bounded))

pub loop-c-preserved-in-Blank : goal.loop-c-preserved-in-Blank
loop-c-preserved-in-Blank c =
    let m = found_goes _ _ _ c.args.notes.admitted _ _ _ _ c.loop-c-test.true c.next_piece.ensures c.in-Blank.is in
    (λ most. going_on most _ _ (c.loop-c.invariant.0 most) (blank_put most _ _ _ _ _ _ _ m c.emit_line.ensures), omega (arith, m.on, c.loop-c.invariant.1))

pub emit_line-requires-in-Plain : goal.emit_line-requires-in-Plain
emit_line-requires-in-Plain c =
    let s = (c.loop-c.invariant.0 0).stands in
    let short = c.args.notes.admitted.short in
    let m = found_goes _ _ _ c.args.notes.admitted _ _ _ _ c.loop-c-test.true c.next_piece.ensures c.in-Plain.is in
    (omega (arith, m.1), omega (arith, m.1, m.2, m.0.within), omega (arith, short), omega (arith, short, s.within, s.bounded))

pub loop-c-preserved : goal.loop-c-preserved
loop-c-preserved c =
    let m = found_goes _ _ _ c.args.notes.admitted _ _ _ _ c.loop-c-test.true c.next_piece.ensures c.in-Plain.is in
    (λ most. going_on most _ _ (c.loop-c.invariant.0 most) (plain_put most _ _ _ _ _ _ _ _ m c.emit_line-in-Plain.ensures refl (omega arith)), omega (arith, m.0.on, c.loop-c.invariant.1))

pub invariant_of-result : goal.invariant_of-result
invariant_of-result c = record { stands = (c.loop-c.invariant.0 0).stands; ahead = found_begins _ _ _ _ _ c.loop-c-test.true c.next_piece.ensures c.in-Text.is }

pub returns-in-Text : goal.returns-in-Text
returns-in-Text c = λ most. (refl, c.loop-c.invariant.0 most, c.loop-c.invariant.1)

pub returns : goal.returns
returns c = λ most. going_last most _ _ (c.loop-c.invariant.0 most) (omega (arith, c.loop-c-test.false))
