-- `lines::ends_body` meets its contract, at the end and by the byte that stands there.
use Rattle.std.proofs.Common.{arith}
use Rattle.std.proofs.lemmas.Grind.{common_steps}
use Rattle.lines.proofs.Lines.{body_past, body_feed, body_more}
use Rattle.lines.proofs.ends_body.Goals as goal

pub returns-then-at-s : goal.returns-then-at-s
returns-then-at-s c = grind (arith, common_steps, body_past, body_feed, body_more)

pub returns-else-at-s : goal.returns-else-at-s
returns-else-at-s c = grind (arith, common_steps, body_past, body_feed, body_more)
