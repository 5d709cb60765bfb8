use mathlib.Core.Path.{◌≡◌}
use Prim.Native.Nat.{◌≤◌}
use Rattle.knuth_plass.specs.Cited.Table.{table_in, path_to}
use Rattle.knuth_plass.specs.Cited.Makers.{before_at}
use Rattle.knuth_plass.proofs.telling.stands_before.Given as goal

abbrev pub invariant-loop-at : goal.invariant-loop-at
invariant-loop-at l = (l.at ≤ l.last) × (before_at l.e (path_to (table_in l.breaks) l.at) ≡ before_at l.e (path_to (table_in l.breaks) l.last))

abbrev pub decreases-loop-at : goal.decreases-loop-at
decreases-loop-at l = l.at
