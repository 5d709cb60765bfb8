use mathlib.Core.Path.{◌≡◌}
use mathlib.Core.Bool.{false}
use mathlib.Core.List.{[]}
use Prim.Native.Nat.{◌+◌, ◌-◌, ◌≤◌}
use lib.ListN.{length}
use lib.Seq.{slice}
use Rattle.options.specs.Opts.{meant}
use Rattle.lines.specs.Lines.{lines_of}
use Rattle.pieces.specs.Cited.Bounds.{AllBegin}
use Rattle.words.specs.Cited.Places.{words_at}
use Rattle.words.proofs.count_lines.Given as goal

abbrev pub invariant-loop-i : goal.invariant-loop-i
invariant-loop-i l =
    (l.i ≤ l.next)
    × (l.n ≤ l.i)
    × (l.mail ≡ false → AllBegin (meant [] l.o).glue l.skip l.later (lines_of (slice l.i l.next l.notes)))
    × (l.n + length (words_at (meant [] l.o) l.mail l.skip l.later (lines_of (slice l.i l.next l.notes))) ≡ length (words_at (meant [] l.o) l.mail l.start l.later (lines_of (slice l.at l.next l.notes))))

abbrev pub decreases-loop-i : goal.decreases-loop-i
decreases-loop-i l = l.next - l.i
