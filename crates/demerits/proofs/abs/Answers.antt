-- `demerits::abs` meets its contract, by what each test says of the value.
use mathlib.Core.Path.{sym, subst}
use lib.Dec.{T}
use lib.Ieee.{of_bits}
use Rattle.demerits.proofs.Sign.{abs_below, abs_level, abs_above}
use Rattle.demerits.proofs.abs.Goals as goal

pub returns-then-x : goal.returns-then-x
unfolding of_bits
returns-then-x c = abs_below c.args.x c.if-x.true

pub returns-then-x-2 : goal.returns-then-x-2
unfolding of_bits
returns-then-x-2 c = abs_level c.args.x (subst T (sym c.well_formed.0.1) tt) c.if-x-2.true

pub returns-else-x-2 : goal.returns-else-x-2
unfolding of_bits
returns-else-x-2 c = abs_above c.args.x c.if-x.false c.if-x-2.false
