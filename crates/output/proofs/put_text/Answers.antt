-- `output::put_text` meets its contract.
use Rattle.output.proofs.Copies.{text_wrote}
use Rattle.output.proofs.put_text.Goals as goal

pub returns : goal.returns
returns c =
    let s = c in
    text_wrote _ _ _ _ s.requires.0 s.requires.1 c.min.ensures c.copy.ensures
