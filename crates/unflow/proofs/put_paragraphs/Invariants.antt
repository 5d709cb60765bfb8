use Prim.Native.Nat.{◌-◌}
use lib.ListN.{length}
use Rattle.unflow.proofs.Texts.{Turning}
use Rattle.unflow.proofs.put_paragraphs.Given as goal

abbrev pub invariant-loop-at : goal.invariant-loop-at
invariant-loop-at l = Turning l.text l.initial.out l.at l.k l.going l.depth l.out

abbrev pub decreases-loop-at : goal.decreases-loop-at
decreases-loop-at l = length l.text - l.at
