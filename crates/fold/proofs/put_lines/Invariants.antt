use Prim.Native.Nat.{◌-◌}
use lib.ListN.{length}
use Rattle.fold.proofs.Texts.{Passing}
use Rattle.fold.proofs.put_lines.Given as goal

abbrev pub invariant-loop-at : goal.invariant-loop-at
invariant-loop-at l = Passing l.tab l.columns l.text l.initial.out l.at l.k l.out

abbrev pub decreases-loop-at : goal.decreases-loop-at
decreases-loop-at l = length l.text - l.at
