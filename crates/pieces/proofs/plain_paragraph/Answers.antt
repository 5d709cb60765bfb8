-- `pieces::plain_paragraph` meets its contract, by one law.
use Rattle.pieces.proofs.Paragraphs.{plain_from}
use Rattle.pieces.proofs.plain_paragraph.Goals as goal

pub returns : goal.returns
returns c = rw (c.margin_at.ensures, c.margin_at-2.ensures) (plain_from _ _ _ _ _ _ c.requires.2 _ c.further.ensures.0)
