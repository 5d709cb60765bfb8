use Prim.Native.Nat.{◌-◌, ◌≤◌}
use Rattle.fold.specs.Cited.Steps.{Plain}
use Rattle.fold.proofs.plain_eights.Given as goal

abbrev pub invariant-loop-i : goal.invariant-loop-i
invariant-loop-i l = Plain l.line l.from l.i × (l.i ≤ l.end)

abbrev pub decreases-loop-i : goal.decreases-loop-i
decreases-loop-i l = l.end - l.i
