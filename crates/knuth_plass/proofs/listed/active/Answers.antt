-- `knuth_plass::listed::active` meets its contract.
use mathlib.Core.Path.{sym, ◌∙◌}
use Rattle.knuth_plass.proofs.Table.{has_room, active_sized, active_at_law}
use native.Mathlib.Omega.{arith}
use Rattle.knuth_plass.proofs.listed.active.Goals as goal

pub number-requires : goal.number-requires
number-requires c = let l = c.args.breaks.now in (has_room l c.args.k (rw (← active_sized l) c.requires), omega arith)

pub returns : goal.returns
returns c = let l = c.args.breaks.now in c.number.ensures.0 ∙ sym (active_at_law l c.args.k (rw (← active_sized l) c.requires))
