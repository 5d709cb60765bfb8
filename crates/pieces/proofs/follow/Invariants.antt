use mathlib.Core.Path.{◌≡◌}
use mathlib.Core.Bool.{true}
use Prim.Native.Nat.{◌-◌, ◌≤◌}
use lib.ListN.{length, drop}
use Rattle.options.specs.Opts.{meant}
use Rattle.lines.specs.Lines.{lines_of}
use Rattle.lines.specs.Cited.Places.{LinesSound}
use Rattle.pieces.specs.Cited.Places.{reach, passes_rule}
use Rattle.pieces.proofs.follow.Given as goal

abbrev pub invariant-loop-i : goal.invariant-loop-i
invariant-loop-i l =
    (l.i ≤ length l.notes) × (reach (meant l.block l.o) (passes_rule l.rule l.o.prefix) l.notes l.i ≡ reach (meant l.block l.o) (passes_rule l.rule l.o.prefix) l.notes l.at)
    × (l.sound ≡ true → LinesSound (lines_of (drop l.i l.notes)))

abbrev pub decreases-loop-i : goal.decreases-loop-i
decreases-loop-i l = length l.notes - l.i
