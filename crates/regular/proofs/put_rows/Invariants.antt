use Prim.Native.Nat.{◌-◌}
use Rattle.output.specs.Cited.Writers.{margin_of}
use Rattle.regular.specs.Cited.Places.{Gone}
use Rattle.regular.proofs.put_rows.Given as goal

abbrev pub invariant-loop-i : goal.invariant-loop-i
invariant-loop-i l = Gone l.s l.at l.next l.mail l.start l.later l.o l.g (margin_of l.s l.indent) l.initial.out l.initial.v l.out l.i l.skip l.v

abbrev pub decreases-loop-i : goal.decreases-loop-i
decreases-loop-i l = l.next - l.i
