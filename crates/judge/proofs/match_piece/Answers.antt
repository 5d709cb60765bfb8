-- `judge::match_piece` meets its contract.
use Rattle.std.proofs.Common.{rules}
use Rattle.walk.proofs.Steps.{ready_usable, ready_cleared, ready_sound, found_goes}
use Rattle.judge.proofs.Laws.{blank_took, plain_took, text_splits, text_over, text_matchable, text_took}
use Rattle.judge.proofs.match_piece.Goals as goal

pub next_piece-requires : goal.next_piece-requires
next_piece-requires c =
    let p = c.requires in let r = c.args.notes.admitted in (p.2, r.short, ready_usable _ _ _ r, ready_cleared _ _ _ r, λ k. p.3 (ready_sound _ _ _ r k))

pub split_words-requires : goal.split_words-requires
split_words-requires c =
    let p = c.requires in let t = text_splits _ _ _ c.args.c c.in-Text.p c.args.notes.admitted p.2 c.in-Text.ensures in (t.0, t.1, t.2, t.3, t.4, p.1, t.5)

pub returns-in_err-n-in-Text : goal.returns-in_err-n-in-Text
returns-in_err-n-in-Text c =
    search (rules, text_over _ _ _ c.args.c c.in-Text.p c.args.notes.admitted c.requires.2 c.in-Text.ensures (c.in_err-n-in-Text.ensures _))

pub words_behind-requires : goal.words_behind-requires
words_behind-requires c =
    let p = c.requires in let w = text_matchable _ _ _ c.args.c c.in-Text.p c.args.notes.admitted p.2 c.in-Text.ensures _ (c.in_ok-n-in-Text.ensures _) in (w.0, w.1, p.0)

pub returns-in-Blank : goal.returns-in-Blank
returns-in-Blank c =
    let m = found_goes _ _ _ c.args.notes.admitted _ _ _ _ c.requires.2 c.next_piece.ensures c.in-Blank.is in blank_took _ _ _ _ c.args.c _ m c.line_behind.ensures

pub returns-in-Plain : goal.returns-in-Plain
returns-in-Plain c =
    let m = found_goes _ _ _ c.args.notes.admitted _ _ _ _ c.requires.2 c.next_piece.ensures c.in-Plain.is in plain_took _ _ _ _ c.args.c _ _ m c.line_behind-in-Plain.ensures

pub returns-in_ok-n-in-Text : goal.returns-in_ok-n-in-Text
returns-in_ok-n-in-Text c =
    text_took _ _ _ c.args.c c.in-Text.p c.args.notes.admitted c.requires.2 c.in-Text.ensures _ (c.in_ok-n-in-Text.ensures _) c.words_behind.ensures
