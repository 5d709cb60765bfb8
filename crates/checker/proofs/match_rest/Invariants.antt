use Prim.Native.Nat.{◌-◌}
use Rattle.output.specs.Cited.Writers.{margin_of}
use Rattle.checker.proofs.Rests.{RestLeft}
use Rattle.checker.proofs.match_rest.Given as goal

abbrev pub invariant-loop-i : goal.invariant-loop-i
invariant-loop-i l = RestLeft l.glue (margin_of l.notes l.indent) l.notes l.table l.n l.digest l.initial.p l.i l.p

abbrev pub decreases-loop-i : goal.decreases-loop-i
decreases-loop-i l = l.n - l.i
