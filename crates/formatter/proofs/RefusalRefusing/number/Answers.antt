-- A refusal's `number` meets its contract.
use Rattle.lists.proofs.Refusals.{refusal_fits}
use Rattle.formatter.specs.Answers.{refusal_coded}
use Rattle.formatter.proofs.RefusalRefusing.number.Goals as goal

pub number-requires : goal.number-requires
number-requires c = refusal_fits refusal_coded c.in-Options.is c.requires

pub number-requires-in-Text : goal.number-requires-in-Text
number-requires-in-Text c = refusal_fits refusal_coded c.in-Text.is c.requires

pub number-requires-in-Words : goal.number-requires-in-Words
number-requires-in-Words c = refusal_fits refusal_coded c.in-Words.is c.requires

pub number-requires-in-Work : goal.number-requires-in-Work
number-requires-in-Work c = refusal_fits refusal_coded c.in-Work.is c.requires
