use mathlib.Core.Path.{◌≡◌}
use mathlib.Core.Bool.{Bool}
use Prim.Native.Nat.{◌-◌, ◌≤◌}
use lib.ListN.{length, drop}
use Rattle.lists.specs.Runs.{every}
use Rattle.text.specs.Characters.{glyphs, is_blank}
use Rattle.lines.proofs.blank_eights.Given as goal

abbrev pub invariant-loop-i : goal.invariant-loop-i
invariant-loop-i l = (l.from ≤ l.i) × (l.i ≤ length l.line) × ((glue : Bool) → every is_blank (glyphs glue (drop l.i l.line)) ≡ every is_blank (glyphs glue (drop l.from l.line)))

abbrev pub decreases-loop-i : goal.decreases-loop-i
decreases-loop-i l = length l.line - l.i
