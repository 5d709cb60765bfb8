-- The `number` of what is not filled meets its contract.
use Rattle.lists.proofs.Refusals.{refusal_fits}
use Rattle.indexer.specs.Cited.Noting.{unfilled_coded}
use Rattle.indexer.proofs.UnfilledRefusing.number.Goals as goal

pub number-requires-in-Full : goal.number-requires-in-Full
number-requires-in-Full c = refusal_fits unfilled_coded c.in-Full.is c.requires

pub number-requires-in-Room : goal.number-requires-in-Room
number-requires-in-Room c = refusal_fits unfilled_coded c.in-Room.is c.requires
