use mathlib.Core.Bool.{Bool}
use Prim.Native.Nat.{◌-◌}
use lib.ListN.{length}
use Rattle.words.proofs.BlankRuns.{BlanksLeft}
use Rattle.words.proofs.over_blanks.Given as goal

abbrev pub invariant-loop-b : goal.invariant-loop-b
invariant-loop-b l = (glue : Bool) → BlanksLeft glue l.tab l.s l.at l.b

abbrev pub decreases-loop-b : goal.decreases-loop-b
decreases-loop-b l = length l.s - l.b.end
