-- `indexer::put_piece` meets its contract.
use mathlib.Core.Path.{refl}
use native.Mathlib.Omega.{arith}
use Rattle.walk.proofs.Steps.{ready_usable, ready_cleared, ready_sound, found_goes, found_begins, blank_put, plain_put, begins_placed}
use Rattle.indexer.proofs.Laws.{text_stepped}
use Rattle.indexer.proofs.put_piece.Goals as goal

pub next_piece-requires : goal.next_piece-requires
next_piece-requires c =
    let a = c.args.notes.admitted in
    let p = c.requires in
    (p.1, a.short, ready_usable _ _ _ a, ready_cleared _ _ _ a, λ k. p.0.sound (ready_sound _ _ _ a k))

pub put_paragraph-requires : goal.put_paragraph-requires
put_paragraph-requires c =
    let a = c.args.notes.admitted in
    let p = c.requires in
    let b = found_begins _ _ _ c.args.c _ p.1 c.next_piece.ensures c.in-Text.is in
    (begins_placed _ _ _ _ _ a b, omega (arith, a.short, p.0.within, p.0.bounded))

pub returns-in-Blank : goal.returns-in-Blank
returns-in-Blank c =
    let m = found_goes _ _ _ c.args.notes.admitted _ _ _ _ c.requires.1 c.next_piece.ensures c.in-Blank.is in
    blank_put _ _ _ _ _ _ _ _ m c.emit_line.ensures

pub returns-in-Plain : goal.returns-in-Plain
returns-in-Plain c =
    let m = found_goes _ _ _ c.args.notes.admitted _ _ _ _ c.requires.1 c.next_piece.ensures c.in-Plain.is in
    plain_put _ _ _ _ _ _ _ _ _ m c.emit_line-in-Plain.ensures refl (omega arith)

pub returns-in-Text : goal.returns-in-Text
returns-in-Text c =
    let n = c.args.notes in
    let b = found_begins _ _ _ c.args.c _ c.requires.1 c.next_piece.ensures c.in-Text.is in
    text_stepped _ _ _ _ _ _ n.admitted c.requires.0 b _ _ c.put_paragraph.result (rw c.room_for-most.ensures at (c.put_paragraph.ensures n.block.now))
