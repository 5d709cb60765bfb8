-- `indexer::tell` meets its contract.
use mathlib.Core.Path.{refl}
use native.Mathlib.Omega.{arith}
use Rattle.lists.specs.Coded.{numbered}
use Rattle.indexer.proofs.tell.Goals as goal

pub returns-in-Ok : goal.returns-in-Ok
unfolding numbered
returns-in-Ok c = rw c.in-Ok.is (omega arith, refl, refl)
