use Prim.Native.Nat.{◌-◌}
use Rattle.regular.specs.Cited.Places.{SpelledTo}
use Rattle.regular.proofs.letters_end.Given as goal

abbrev pub invariant-loop-i : goal.invariant-loop-i
invariant-loop-i l = SpelledTo l.s l.from l.end (record { end = l.i; count = l.count })

abbrev pub decreases-loop-i : goal.decreases-loop-i
decreases-loop-i l = l.end - l.i
