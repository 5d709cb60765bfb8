use Prim.Native.Nat.{◌+◌}
use Prim.Native.Nat.{◌-◌, ◌≤◌}
use lib.ListN.{length}
use Rattle.fold.specs.Cited.Steps.{Plain}
use Rattle.fold.proofs.plain_end.Given as goal

abbrev pub invariant-loop-i : goal.invariant-loop-i
invariant-loop-i l = Plain l.line l.from l.i × (l.i ≤ l.end) × (l.end ≤ length l.line) × (l.end ≤ l.from + l.most)

abbrev pub decreases-loop-i : goal.decreases-loop-i
decreases-loop-i l = l.end - l.i
