use mathlib.Core.Path.{◌≡◌}
use mathlib.Core.Bool.{Bool}
use Prim.Native.Nat.{◌-◌, ◌≤◌}
use lib.ListN.{length, drop}
use Rattle.text.specs.Characters.{glyphs}
use Rattle.lines.specs.Classes.{search as seek}
use Rattle.lines.proofs.look_for.Given as goal

abbrev pub invariant-loop-exact : goal.invariant-loop-exact
invariant-loop-exact l = (l.i ≤ length l.line) × ((glue : Bool) → seek l.exact l.p (drop l.i l.line) l.i (glyphs glue (drop l.i l.line)) ≡ seek l.exact l.p l.line 0 (glyphs glue l.line))

abbrev pub decreases-loop-exact : goal.decreases-loop-exact
decreases-loop-exact l = length l.line - l.i
