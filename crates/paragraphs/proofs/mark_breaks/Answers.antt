-- `paragraphs::mark_breaks` meets its contract.
use Rattle.paragraphs.proofs.Breaking.{broken_fast}
use Rattle.paragraphs.proofs.mark_breaks.Goals as goal

pub returns-then-fast : goal.returns-then-fast
returns-then-fast c = broken_fast _ _ _ _ _ c.if-fast.true c.quick_breaks.ensures
