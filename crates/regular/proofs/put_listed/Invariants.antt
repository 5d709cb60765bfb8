use Rattle.output.specs.Cited.Writers.{margin_of}
use Rattle.regular.specs.Cited.Places.{Listed}
use Rattle.regular.proofs.put_listed.Given as goal

abbrev pub invariant-loop-j : goal.invariant-loop-j
invariant-loop-j l = Listed l.s l.table l.n l.g (margin_of l.s l.indent) l.initial.out l.initial.v l.out l.j l.v
