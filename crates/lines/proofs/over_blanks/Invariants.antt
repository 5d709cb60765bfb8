use mathlib.Core.Bool.{Bool}
use Prim.Native.Nat.{◌-◌}
use lib.ListN.{length}
use Rattle.lines.specs.Cited.Places.{Inside}
use Rattle.lines.proofs.Turns.{LeftBlanks}
use Rattle.lines.proofs.over_blanks.Given as goal

abbrev pub invariant-loop-code : goal.invariant-loop-code
invariant-loop-code l = Inside l.line l.spot × ((glue : Bool) → LeftBlanks glue l.tab l.line l.initial.spot l.spot)

abbrev pub decreases-loop-code : goal.decreases-loop-code
decreases-loop-code l = length l.line - l.spot.at
