-- `regular::place_of` meets its contract.
use mathlib.Core.Path.{sym, ◌∙◌}
use native.Mathlib.Omega.{arith}
use Rattle.regular.proofs.Columns.{reaches_plain}
use Rattle.regular.proofs.place_of.Goals as goal

pub returns-then-columns-e : goal.returns-then-columns-e
returns-then-columns-e c =
    let pre = c.requires in
    reaches_plain _ _ _ _ pre.1 (sym pre.2 ∙ c.if-columns-e.true) (omega (arith, c.if-columns-e.true, pre.3))
