-- `demerits::ratio` meets its contract: the quotient, but where t is the goal.
use lib.Ieee.{of_bits}
use native.Mathlib.Omega.{arith}
use Rattle.demerits.proofs.Ratios.{ratio_same, ratio_apart, apart_within}
use Rattle.demerits.proofs.ratio.Goals as goal

pub returns-then-t-goal : goal.returns-then-t-goal
unfolding of_bits
returns-then-t-goal c = let a = c.args in (ratio_same a.goal a.t a.stretch c.if-t-goal.true, tt)

pub returns-else-t-goal : goal.returns-else-t-goal
returns-else-t-goal c =
    let a = c.args in
    let n = c.if-t-goal.false in
    rw (c.apart.ensures, c.float.ensures) (
      ratio_apart a.goal a.t a.stretch n,
      apart_within a.goal a.t a.stretch n (omega arith) (omega arith) (omega arith),
    )
