use mathlib.Core.Path.{◌≡◌}
use Prim.Native.Nat.{◌-◌}
use Rattle.knuth_plass.specs.Cited.Table.{table_in}
use Rattle.knuth_plass.specs.Cited.Interval.{pops, span}
use Rattle.knuth_plass.proofs.interval.pass.Given as goal

abbrev pub invariant-loop-k : goal.invariant-loop-k
invariant-loop-k l =
    pops l.g.setting l.x (span (table_in l.breaks) l.head (l.size - l.head)) ≡ pops l.g.setting l.x (span (table_in l.breaks) l.k (l.size - l.k))
