use mathlib.Core.Path.{◌≡◌}
use Prim.Native.Nat.{◌≤◌, ◌+◌, ◌-◌, ◌*◌, ◌^◌}
use lib.ListN.{length}
use Rattle.output.specs.Cited.Writers.{emitted, emitted_from}
use Rattle.output.proofs.emitted_size.Given as goal

abbrev pub invariant-loop-i : goal.invariant-loop-i
invariant-loop-i l =
    (1 ≤ l.i) × (l.i ≤ l.n) × (l.k ≤ l.i * 2 ^ 34) × (l.k + length (emitted_from l.notes l.table l.n l.l l.punct l.i) ≡ length (emitted l.notes l.table l.n l.l))

abbrev pub decreases-loop-i : goal.decreases-loop-i
decreases-loop-i l = l.n - l.i
