-- `flow::send_piece` meets its contract.
use native.Mathlib.Omega.{arith}
use Rattle.flow.proofs.Course.{ready_usable, ready_cleared, ready_sound, ready_uniform, found_goes, text_placed, blank_put, plain_put, text_stepped}
use Rattle.flow.proofs.send_piece.Goals as goal

pub next_piece-requires : goal.next_piece-requires
next_piece-requires c = let p = c.requires in (p.2, p.0.admitted.short, ready_usable _ _ _ p.0, ready_cleared _ _ _ p.0, λ k. p.1.sound (ready_sound _ _ _ p.0 k))

pub send_text-requires : goal.send_text-requires
send_text-requires c =
    let p = c.requires in
    let g = found_goes _ _ _ p.0 _ _ _ _ p.2 c.next_piece.ensures c.in-Text.is in
    (text_placed _ _ _ p.0 c.args.c g, omega (arith, p.0.admitted.short, p.1.within, p.1.bounded), omega (arith, p.0.admitted.short, p.1.within, p.1.few), ready_uniform _ _ _ p.0)

pub returns-in-Blank : goal.returns-in-Blank
returns-in-Blank c =
    let p = c.requires in
    let m = found_goes _ _ _ p.0 _ _ _ _ p.2 c.next_piece.ensures c.in-Blank.is in
    blank_put _ _ _ _ c.args.c _ _ _ m c.send_line.ensures

pub returns-in-Plain : goal.returns-in-Plain
returns-in-Plain c =
    let p = c.requires in
    let m = found_goes _ _ _ p.0 _ _ _ _ p.2 c.next_piece.ensures c.in-Plain.is in
    plain_put _ _ _ _ c.args.c _ _ _ _ m c.send_line-in-Plain.ensures

pub returns-in-Text : goal.returns-in-Text
returns-in-Text c =
    let p = c.requires in
    let g = found_goes _ _ _ p.0 _ _ _ _ p.2 c.next_piece.ensures c.in-Text.is in
    text_stepped _ _ _ p.0 c.args.c g _ _ _ c.send_text.result (c.send_text.ensures _)
