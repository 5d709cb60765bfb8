use Prim.Native.Nat.{◌-◌}
use Rattle.widths.specs.Cited.Forms.{LeftOut}
use Rattle.widths.proofs.search.Given as goal

abbrev pub invariant-loop-s : goal.invariant-loop-s
invariant-loop-s l = LeftOut l.k l.c

abbrev pub decreases-loop-s : goal.decreases-loop-s
decreases-loop-s l = 479 - l.k
