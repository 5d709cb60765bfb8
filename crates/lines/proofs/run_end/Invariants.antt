use Rattle.lines.specs.Cited.Places.{Repeats}
use Rattle.lines.proofs.run_end.Given as goal

abbrev pub invariant-loop-i : goal.invariant-loop-i
invariant-loop-i l = Repeats l.byte l.line l.from l.i
