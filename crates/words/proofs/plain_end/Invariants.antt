use Prim.Native.Nat.{◌-◌}
use lib.ListN.{length}
use Rattle.words.specs.Cited.Scan.{Plain}
use Rattle.words.proofs.plain_end.Given as goal

abbrev pub invariant-loop-i : goal.invariant-loop-i
invariant-loop-i l = Plain l.s l.from l.i

abbrev pub decreases-loop-i : goal.decreases-loop-i
decreases-loop-i l = length l.s - l.i
