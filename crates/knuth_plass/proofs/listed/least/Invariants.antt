use mathlib.Core.Path.{◌≡◌}
use mathlib.Core.List.{map}
use Prim.Native.Nat.{◌<◌}
use lib.Seq.{slice}
use Rattle.knuth_plass.specs.KnuthPlass.{least_from, least as leastOf}
use Rattle.knuth_plass.specs.Cited.Table.{table_in, active_in, break_meant}
use Rattle.knuth_plass.specs.Cited.Round.{breaks_listed}
use Rattle.knuth_plass.proofs.listed.least.Given as goal

abbrev pub invariant-loop-k : goal.invariant-loop-k
invariant-loop-k l =
    (l.found < l.fn.st.size)
    × (least_from (break_meant (table_in l.breaks) l.found) (map (break_meant (table_in l.breaks)) (slice l.k l.fn.st.count (active_in l.breaks))) ≡ leastOf (breaks_listed l.fn.st.count (table_in l.breaks) (active_in l.breaks)))
