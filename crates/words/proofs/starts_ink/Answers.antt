-- `words::starts_ink` meets its contract: it says so only where the bytes show it.
use Rattle.std.proofs.Common.{arith}
use Rattle.std.proofs.lemmas.Grind.{common_steps}
use Rattle.std.proofs.lemmas.Option.{gets}
use Rattle.std.proofs.lemmas.Bool.Decides.{nat_tests}
use Rattle.text.proofs.Leads.{lead_ink}
use Rattle.words.proofs.starts_ink.Goals as goal

pub returns-in-Some : goal.returns-in-Some
returns-in-Some c = grind (arith, common_steps, gets, nat_tests, lead_ink)

pub returns-in-Some-matches : goal.returns-in-Some-matches
returns-in-Some-matches c = grind (arith, common_steps, gets, nat_tests, lead_ink)

pub returns-in-Some-2 : goal.returns-in-Some-2
returns-in-Some-2 c = grind (arith, common_steps, gets, nat_tests, lead_ink)
