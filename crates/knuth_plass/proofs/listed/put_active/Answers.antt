-- `knuth_plass::listed::put_active` meets its contract.
use mathlib.Core.Path.{refl}
use Rattle.knuth_plass.specs.Cited.Table.{with_active}
use Rattle.knuth_plass.proofs.listed.put_active.Goals as goal

pub returns : goal.returns
unfolding with_active
returns c = refl
