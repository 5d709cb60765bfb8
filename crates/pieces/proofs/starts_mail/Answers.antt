-- `pieces::starts_mail` meets its contract: the tests are those of the rule.
use Rattle.std.proofs.Common.{arith}
use Rattle.std.proofs.lemmas.Grind.{common_steps}
use Rattle.pieces.specs.Pieces.{starts_mail}
use Rattle.pieces.proofs.starts_mail.Goals as goal

pub returns-then-s-eq0 : goal.returns-then-s-eq0
unfolding starts_mail
returns-then-s-eq0 c = grind (arith, common_steps)

pub returns-else-s-eq0 : goal.returns-else-s-eq0
unfolding starts_mail
returns-else-s-eq0 c = grind (arith, common_steps)
