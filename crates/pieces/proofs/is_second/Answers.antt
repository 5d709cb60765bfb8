-- `pieces::is_second` meets its contract: the tests are those of the rule.
use Rattle.std.proofs.Common.{arith}
use Rattle.std.proofs.lemmas.Grind.{common_steps}
use Rattle.pieces.specs.Pieces.{second_rule}
use Rattle.pieces.proofs.is_second.Goals as goal

pub returns-then-a-b-3 : goal.returns-then-a-b-3
unfolding second_rule
returns-then-a-b-3 c = grind (arith, common_steps)

pub returns-else-a-b-3 : goal.returns-else-a-b-3
unfolding second_rule
returns-else-a-b-3 c = grind (arith, common_steps)

pub returns-else-a-b-2 : goal.returns-else-a-b-2
unfolding second_rule
returns-else-a-b-2 c = grind (arith, common_steps)
