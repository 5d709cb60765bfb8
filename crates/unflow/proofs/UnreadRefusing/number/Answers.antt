-- `unflow::Unread` gives its number.
use Rattle.lists.proofs.Refusals.{refusal_fits}
use Rattle.unflow.specs.Cited.Steps.{unread_coded}
use Rattle.unflow.proofs.UnreadRefusing.number.Goals as goal

pub number-requires-in-Room : goal.number-requires-in-Room
number-requires-in-Room c = refusal_fits unread_coded c.in-Room.is c.requires
