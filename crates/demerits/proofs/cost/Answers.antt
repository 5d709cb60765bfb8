-- `demerits::cost` meets its contract.
use Rattle.demerits.proofs.Terms.{square_le_most}
use Rattle.demerits.proofs.cost.Goals as goal

pub returns : goal.returns
returns c = rw c.from-wide.ensures (cc, square_le_most _ _ _ c.line_term.ensures.1 c.requires.2 c.ratio_term.ensures.1)
