use mathlib.Core.Path.{◌≡◌}
use Prim.Native.Nat.{◌+◌, ◌-◌, ◌<◌}
use Rattle.knuth_plass.specs.Cited.Interval.{skipped_from}
use Rattle.knuth_plass.proofs.interval.skip.Given as goal

abbrev pub invariant-loop-k : goal.invariant-loop-k
invariant-loop-k l =
    (l.line < l.low)
    × (skipped_from l.uniform l.low l.work (l.n - (l.i + 1)) l.i l.p ≡ skipped_from l.uniform l.low l.work (l.n - (l.k + 1)) l.k l.line)
