-- `pieces::mail_paragraph` meets its contract, by one law.
use Rattle.pieces.proofs.Paragraphs.{mail_from}
use Rattle.pieces.proofs.mail_paragraph.Goals as goal

pub returns : goal.returns
returns c = mail_from _ _ _ _ _ _ _ c.further.ensures.0
