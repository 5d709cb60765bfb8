use mathlib.Core.Path.{◌≡◌}
use Rattle.output.specs.Cited.Runs.{Runs}
use Rattle.output.proofs.run_from.Given as goal

abbrev pub invariant-loop-j : goal.invariant-loop-j
invariant-loop-j l = (l.r.next ≡ l.j) × Runs l.notes l.table l.n l.l l.end l.punct l.i l.r
