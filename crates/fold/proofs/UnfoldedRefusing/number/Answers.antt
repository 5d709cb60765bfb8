-- `fold::Unfolded` gives its number.
use Rattle.lists.proofs.Refusals.{refusal_fits}
use Rattle.fold.specs.Cited.Steps.{unfolded_coded}
use Rattle.fold.proofs.UnfoldedRefusing.number.Goals as goal

pub number-requires-in-Room : goal.number-requires-in-Room
number-requires-in-Room c = refusal_fits unfolded_coded c.in-Room.is c.requires
