-- `salvage::Unrestored` gives its number.
use Rattle.lists.proofs.Refusals.{refusal_fits}
use Rattle.salvage.specs.Cited.Steps.{unrestored_coded}
use Rattle.salvage.proofs.UnrestoredRefusing.number.Goals as goal

pub number-requires-in-Stray : goal.number-requires-in-Stray
number-requires-in-Stray c = refusal_fits unrestored_coded c.in-Stray.is c.requires

pub number-requires-in-Room : goal.number-requires-in-Room
number-requires-in-Room c = refusal_fits unrestored_coded c.in-Room.is c.requires
