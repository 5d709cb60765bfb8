-- `judge::number_of` meets its contract.
use Rattle.std.proofs.Common.{Result}
use mathlib.Core.Path.{sym, ap}
use Rattle.lists.specs.Coded.{numbered}
use Rattle.judge.specs.Answers.{check_coded}
use Rattle.judge.specs.declared.Unaccepted.{Unaccepted}
use Rattle.judge.proofs.number_of.Goals as goal

pub returns-in-Ok : goal.returns-in-Ok
unfolding numbered
returns-in-Ok c = ap (λ (a : Result (Unit {0}) Unaccepted). numbered (check_coded a)) (sym c.in-Ok.is)
