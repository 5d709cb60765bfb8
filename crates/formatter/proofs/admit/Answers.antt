-- `formatter::admit` meets its contract.
use Rattle.formatter.specs.Format.{own_room}
use Rattle.formatter.proofs.admit.Goals as goal

pub returns-clause-admits : goal.returns-clause-admits
returns-clause-admits c = c.admit_within.ensures.admits own_room.words
