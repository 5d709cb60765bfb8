-- `pieces::passes` meets its contract, rule by rule.
use Rattle.std.proofs.Common.{arith}
use Rattle.std.proofs.lemmas.Grind.{common_steps}
use Rattle.pieces.specs.Pieces.{agrees}
use Rattle.pieces.specs.Cited.Places.{passes_rule}
use Rattle.pieces.proofs.passes.Goals as goal

pub returns-in-Like : goal.returns-in-Like
unfolding passes_rule agrees
returns-in-Like c = grind (arith, common_steps)

pub returns-then-is_none : goal.returns-then-is_none
unfolding passes_rule
returns-then-is_none c = grind (arith, common_steps)

pub returns-else-is_none : goal.returns-else-is_none
unfolding passes_rule
returns-else-is_none c = grind (arith, common_steps)

pub returns-else-s-gt0 : goal.returns-else-s-gt0
unfolding passes_rule
returns-else-s-gt0 c = grind (arith, common_steps)
