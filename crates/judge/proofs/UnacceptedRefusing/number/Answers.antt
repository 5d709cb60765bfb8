-- A refused digest's `number` meets its contract.
use Rattle.lists.proofs.Refusals.{refusal_fits}
use Rattle.judge.specs.Answers.{unaccepted_coded}
use Rattle.judge.proofs.UnacceptedRefusing.number.Goals as goal

pub number-requires-in-Line : goal.number-requires-in-Line
number-requires-in-Line c = refusal_fits unaccepted_coded c.in-Line.is c.requires
