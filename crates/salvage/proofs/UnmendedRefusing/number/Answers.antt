-- `salvage::Unmended` gives its number.
use Rattle.lists.proofs.Refusals.{refusal_fits}
use Rattle.salvage.specs.Cited.Steps.{unmended_coded}
use Rattle.salvage.proofs.UnmendedRefusing.number.Goals as goal

pub number-requires-in-Full : goal.number-requires-in-Full
number-requires-in-Full c = refusal_fits unmended_coded c.in-Full.is c.requires

pub number-requires-in-Room : goal.number-requires-in-Room
number-requires-in-Room c = refusal_fits unmended_coded c.in-Room.is c.requires
