-- The `number` of what is not written meets its contract.
use Rattle.lists.proofs.Refusals.{refusal_fits}
use Rattle.formatter.specs.Cited.Call.{unwritten_coded}
use Rattle.formatter.proofs.UnwrittenRefusing.number.Goals as goal

pub number-requires-in-Room : goal.number-requires-in-Room
number-requires-in-Room c = refusal_fits unwritten_coded c.in-Room.is c.requires
