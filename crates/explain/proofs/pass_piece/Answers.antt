-- `explain::pass_piece` meets its contract.
use mathlib.Core.Bool.{false≢true}
use Rattle.paragraphs.specs.declared.Cursor.{Cursor}
use Rattle.walk.proofs.Steps.{ready_usable, ready_cleared, found_goes, found_begins, begins_placed}
use Rattle.explain.proofs.Seeking.{blank_behind, plain_behind, text_passed}
use lib.ListN.{length}
use Rattle.paragraphs.specs.Cited.Steps.{room_for}
use Rattle.explain.proofs.pass_piece.Goals as goal

pub next_piece-requires : goal.next_piece-requires
next_piece-requires c = let a = c.args.notes.admitted in (c.requires, a.short, ready_usable _ _ _ a, ready_cleared _ _ _ a, λ known. absurd (false≢true known))

pub pass_paragraph-requires : goal.pass_paragraph-requires
pass_paragraph-requires c =
    let a = c.args.notes.admitted in
    let cursor : Cursor = record { at = c.args.s.at; written = 0; mail = c.args.s.mail } in
    begins_placed _ _ _ cursor _ a (found_begins _ _ _ cursor _ c.requires c.next_piece.ensures c.in-Text.is)

pub returns-in-Blank : goal.returns-in-Blank
returns-in-Blank c =
    let m = found_goes _ _ _ c.args.notes.admitted _ _ _ _ c.requires c.next_piece.ensures c.in-Blank.is in
    blank_behind _ _ _ _ _ _ m c.pass_line.ensures

pub returns-in-Plain : goal.returns-in-Plain
returns-in-Plain c =
    let m = found_goes _ _ _ c.args.notes.admitted _ _ _ _ c.requires c.next_piece.ensures c.in-Plain.is in
    plain_behind _ _ _ _ _ _ m.0 c.pass_line-in-Plain.ensures

pub returns-in-Text : goal.returns-in-Text
returns-in-Text c =
    let n = c.args.notes in
    let m = found_goes _ _ _ n.admitted _ _ _ _ c.requires c.next_piece.ensures c.in-Text.is in
    text_passed (room_for n.options.quick (length c.args.work.now)) n.block.now n.bytes.now n.options c.args.s _ m c.pass_paragraph.result (c.pass_paragraph.ensures n.block.now)
