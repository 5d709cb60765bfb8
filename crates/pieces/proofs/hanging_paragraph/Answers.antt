-- `pieces::hanging_paragraph` meets its contract: alone, or with a second line that joins.
use mathlib.Core.Path.{sym, ◌∙◌}
use Rattle.pieces.proofs.Paragraphs.{alone_from, joins_from}
use Rattle.pieces.proofs.Seconds.{joined_of}
use Rattle.pieces.proofs.hanging_paragraph.Goals as goal

pub returns-in-None : goal.returns-in-None
returns-in-None c =
    rw (c.margin_at-first.ensures, c.margin_at.ensures) (alone_from _ _ _ _ _ _ c.requires.2 c.requires.3 _ c.further_spaces.ensures.0 (sym c.in-None.is ∙ c.second_line.ensures.0))

pub returns-in-Some : goal.returns-in-Some
returns-in-Some c =
    let second = c.in-Some.second in
    let joined = joined_of c.args.notes.now c.args.next _ c.second_line.ensures.1 c.in-Some.is in
    rw (c.margin_at-first.ensures, c.margin_at-in-Some.ensures)
    (joins_from _ _ _ _ _ _ c.requires.2 c.requires.3 second.next _ second.shape (sym c.in-Some.is ∙ c.second_line.ensures.0) joined c.follow.ensures.0)
