use mathlib.Core.Path.{◌≡◌}
use mathlib.Core.Bool.{false}
use Prim.Native.Nat.{◌+◌, ◌*◌, ◌-◌, ◌^◌, ◌≤◌}
use lib.ListN.{length}
use Rattle.output.specs.Cited.Sink.{Left}
use Rattle.flow.specs.Cited.Sending.{sent_from, dashes_from}
use Rattle.flow.proofs.emit_rest.Given as goal

abbrev pub invariant-loop-i : goal.invariant-loop-i
invariant-loop-i l =
    (1 ≤ l.i) × (l.i ≤ l.n) × (l.t.at ≤ l.initial.t.at + l.i * 2 ^ 34) × (l.t.dashes ≤ l.i) × (length l.out ≡ length l.initial.out)
    × Left l.initial.out l.initial.t.at (sent_from l.notes l.table l.n l.indent l.initial.t.dashed false 1) l.out l.t.at (sent_from l.notes l.table l.n l.indent l.t.dashed l.punct l.i)
    × (l.t.dashes + dashes_from l.notes l.table l.n l.indent l.t.dashed l.i ≡ dashes_from l.notes l.table l.n l.indent l.initial.t.dashed 1)

abbrev pub decreases-loop-i : goal.decreases-loop-i
decreases-loop-i l = l.n - l.i
