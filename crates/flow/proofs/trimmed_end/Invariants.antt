use mathlib.Core.Path.{◌≡◌}
use Prim.Native.Nat.{◌≤◌}
use lib.Seq.{slice}
use Rattle.flow.specs.Flow.{trimmed}
use Rattle.flow.proofs.trimmed_end.Given as goal

abbrev pub invariant-loop-end : goal.invariant-loop-end
invariant-loop-end l = (trimmed (slice l.from l.end l.notes) ≡ trimmed (slice l.from l.to l.notes)) × (l.from ≤ l.end) × (l.end ≤ l.to)

abbrev pub decreases-loop-end : goal.decreases-loop-end
decreases-loop-end l = l.end
