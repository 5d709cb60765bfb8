use mathlib.Core.Path.{◌≡◌}
use Prim.Native.Nat.{◌≤◌, ◌-◌, ◌+◌, ◌*◌, ◌^◌}
use lib.ListN.{length}
use Rattle.output.specs.Cited.Sink.{Left}
use Rattle.output.specs.Cited.Writers.{emitted_from}
use Rattle.output.proofs.emit_rest.Given as goal

abbrev pub invariant-loop-r : goal.invariant-loop-r
invariant-loop-r l =
    (l.r.next ≤ l.n) × (l.k ≤ 2 ^ 63 + l.r.next * 2 ^ 34) × (length l.out ≡ length l.initial.out)
    × Left l.initial.out l.at (emitted_from l.notes l.table l.n l.l l.initial.r.punct l.initial.r.next) l.out l.k (emitted_from l.notes l.table l.n l.l l.r.punct l.r.next)

abbrev pub decreases-loop-r : goal.decreases-loop-r
decreases-loop-r l = l.n - l.r.next
