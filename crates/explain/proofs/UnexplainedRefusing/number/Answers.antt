-- The `number` of what is not explained meets its contract.
use Rattle.lists.proofs.Refusals.{refusal_fits}
use Rattle.explain.specs.Cited.Seeking.{unexplained_coded}
use Rattle.explain.proofs.UnexplainedRefusing.number.Goals as goal

pub number-requires-in-NoLine : goal.number-requires-in-NoLine
number-requires-in-NoLine c = refusal_fits unexplained_coded c.in-NoLine.is c.requires
