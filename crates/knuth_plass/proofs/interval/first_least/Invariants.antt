use mathlib.Core.Path.{◌≡◌}
use Prim.Native.Nat.{◌-◌, ◌<◌}
use Rattle.knuth_plass.specs.KnuthPlass.{least_from, least}
use Rattle.knuth_plass.specs.Cited.Table.{table_in, break_meant}
use Rattle.knuth_plass.specs.Cited.Interval.{span}
use Rattle.knuth_plass.proofs.interval.first_least.Given as goal

abbrev pub invariant-loop-k : goal.invariant-loop-k
invariant-loop-k l =
    (l.found < l.size)
    × (least_from (break_meant (table_in l.breaks) l.found) (span (table_in l.breaks) l.k (l.size - l.k)) ≡ least (span (table_in l.breaks) l.head (l.size - l.head)))
