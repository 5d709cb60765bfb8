-- `pieces::next_piece` meets its contract, class by class.
use Rattle.std.proofs.Common.{◌≡◌, ◌||◌, arith}
use Rattle.std.proofs.lemmas.Grind.{common_steps}
use mathlib.Core.Path.{sym, ◌∙◌}
use mathlib.Core.Bool.{true, false}
use Rattle.pieces.proofs.Places.{next_sound}
use Rattle.pieces.proofs.Paragraphs.{joined_line}
use Rattle.pieces.proofs.Seconds.{not_split}
use Rattle.pieces.proofs.Next.{piece_blank, piece_plain, piece_text}
use Rattle.pieces.proofs.Meaning.{piece_bounded}
use Rattle.pieces.proofs.next_piece.Goals as goal

pub returns-then-starts_mail : goal.returns-then-starts_mail
returns-then-starts_mail c =
    piece_bounded _ _ _ _ _ _ _ c.requires (piece_text _ _ _ _ _ _ c.line_at-end.ensures _ c.in-Formatted.is true (sym c.if-starts_mail.true ∙ c.starts_mail.ensures) _ c.mail_paragraph.ensures)

pub hanging_paragraph-requires : goal.hanging_paragraph-requires
hanging_paragraph-requires c =
    let l = c.line_at-end.ensures in
    let h : (c.args.o.crown || c.args.o.tagged) ≡ true = grind (arith, common_steps) in
    (record { short = c.requires.1; usable = c.requires.2; place = l.within; sound = next_sound _ _ _ _ _ l c.requires.4 }, (joined_line _ _ _ _ _ l c.in-Formatted.is c.requires.2 c.requires.1).shaped, h, not_split _ _ c.requires.3 h)

pub returns-then-o : goal.returns-then-o
returns-then-o c =
    piece_bounded _ _ _ _ _ _ _ c.requires (piece_text _ _ _ _ _ _ c.line_at-end.ensures _ c.in-Formatted.is false (sym c.if-starts_mail.false ∙ c.starts_mail.ensures) _ c.hanging_paragraph.ensures)

pub plain_paragraph-requires : goal.plain_paragraph-requires
plain_paragraph-requires c =
    let l = c.line_at-end.ensures in
    (record { short = c.requires.1; usable = c.requires.2; place = l.within; sound = next_sound _ _ _ _ _ l c.requires.4 }, (joined_line _ _ _ _ _ l c.in-Formatted.is c.requires.2 c.requires.1).shaped, grind (arith, common_steps))

pub returns-in-Blank : goal.returns-in-Blank
returns-in-Blank c = piece_bounded _ _ _ _ _ _ _ c.requires (piece_blank _ _ _ _ _ c.line_at-end.ensures c.in-Blank.is)

pub returns-in-Plain : goal.returns-in-Plain
returns-in-Plain c = piece_bounded _ _ _ _ _ _ _ c.requires (piece_plain _ _ _ _ _ c.line_at-end.ensures c.in-Plain.is)

pub returns-else-o-2 : goal.returns-else-o-2
returns-else-o-2 c =
    piece_bounded _ _ _ _ _ _ _ c.requires (piece_text _ _ _ _ _ _ c.line_at-end.ensures _ c.in-Formatted.is false (sym c.if-starts_mail.false ∙ c.starts_mail.ensures) _ c.plain_paragraph.ensures)
