use mathlib.Core.Path.{◌≡◌}
use Rattle.endings.proofs.Spots.{spot_from}
use Rattle.endings.proofs.find_line.Given as goal

abbrev pub invariant-loop-i : goal.invariant-loop-i
invariant-loop-i l = spot_from l.table l.n l.i l.left ≡ spot_from l.table l.n 1 l.line
