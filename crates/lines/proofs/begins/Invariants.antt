use mathlib.Core.Path.{◌≡◌}
use lib.ListN.{drop}
use Rattle.lists.specs.Runs.{begins}
use Rattle.lines.proofs.begins.Given as goal

abbrev pub invariant-loop-i : goal.invariant-loop-i
invariant-loop-i l = begins (drop l.i l.p) (drop l.i l.s) ≡ begins l.p l.s
