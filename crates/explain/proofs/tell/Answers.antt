-- `explain::tell` meets its contract.
use mathlib.Core.Path.{refl}
use Rattle.lists.specs.Coded.{numbered}
use Rattle.explain.proofs.tell.Goals as goal

pub returns-in-Ok : goal.returns-in-Ok
unfolding numbered
returns-in-Ok c = rw c.in-Ok.is (refl, c.put.ensures)
