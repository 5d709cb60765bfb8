-- `formatter::admit_lent` meets its contract.
use native.Mathlib.Omega.{arith}
use Rattle.formatter.proofs.Replies.{work_passed}
use Rattle.formatter.proofs.admit_lent.Goals as goal

pub returns-clause-admits : goal.returns-clause-admits
returns-clause-admits c = work_passed c.args.lends _ _ c.admit_within.ensures.admits c.in_ok-admitted.was _ c.work_over-needed.ensures (omega arith)
