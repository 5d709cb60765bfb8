-- `paragraphs::room_for` meets its contract.
use Rattle.paragraphs.specs.Cited.Steps.{room_for}
use Rattle.paragraphs.proofs.room_for.Goals as goal

pub returns-then-quick : goal.returns-then-quick
unfolding room_for
returns-then-quick c = rw c.if-quick.true

pub returns-else-quick : goal.returns-else-quick
unfolding room_for
returns-else-quick c = rw c.if-quick.false
