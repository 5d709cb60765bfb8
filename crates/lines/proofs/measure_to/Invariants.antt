use Prim.Native.Nat.{◌-◌}
use lib.ListN.{length}
use Rattle.lines.specs.Cited.Places.{Inside}
use Rattle.lines.proofs.Turns.{Left}
use Rattle.lines.proofs.measure_to.Given as goal

abbrev pub invariant-loop-spot : goal.invariant-loop-spot
invariant-loop-spot l = Inside l.line l.spot × Left l.tab l.line l.place l.spot

abbrev pub decreases-loop-spot : goal.decreases-loop-spot
decreases-loop-spot l = length l.line - l.spot.at
