use Rattle.salvage.proofs.Writes.{Storing}
use Rattle.salvage.proofs.put_text.Given as goal

abbrev pub invariant-loop-i : goal.invariant-loop-i
invariant-loop-i l = Storing l.text l.initial.out l.at l.out l.i
