-- `endings::find_line` meets its contract. Invariant: from here on, the line is so many lines ahead.
use Rattle.std.proofs.Common.{arith}
use mathlib.Core.Path.{◌∙◌}
use Rattle.endings.proofs.Spots.{spot_here, spot_less, spot_on, spot_last, spot_behind}
use Rattle.endings.proofs.find_line.Goals as goal

pub returns-then-left-eq0 : goal.returns-then-left-eq0
returns-then-left-eq0 c = grind (arith, spot_here)

pub loop-i-preserved : goal.loop-i-preserved
loop-i-preserved c = grind (arith, spot_less, spot_on)

pub returns-in-None : goal.returns-in-None
returns-in-None c = grind (arith, spot_last)

pub returns-in-Some : goal.returns-in-Some
returns-in-Some c = let l = c.loop-i in spot_behind c.args.table.now c.args.n l.i l.left c.in-Some.behind (omega arith) (omega arith) ∙ l.invariant
