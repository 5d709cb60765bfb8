use mathlib.Core.Path.{◌≡◌}
use mathlib.Core.Bool.{false}
use mathlib.Core.List.{[]}
use Prim.Native.Nat.{◌-◌, ◌≤◌}
use lib.Seq.{slice}
use Rattle.options.specs.Opts.{meant}
use Rattle.lines.specs.Lines.{lines_of}
use Rattle.pieces.specs.Cited.Bounds.{AllBegin}
use Rattle.words.specs.Cited.Places.{words_at, places_at}
use Rattle.words.proofs.Filling.{Filling}
use Rattle.words.proofs.split_words.Given as goal

abbrev pub invariant-loop-i : goal.invariant-loop-i
invariant-loop-i l =
    (l.i ≤ l.next)
    × (l.mail ≡ false → AllBegin (meant [] l.o).glue l.skip l.later (lines_of (slice l.i l.next l.notes)))
    × Filling l.most l.notes (words_at (meant [] l.o) l.mail l.start l.later (lines_of (slice l.at l.next l.notes))) (words_at (meant [] l.o) l.mail l.skip l.later (lines_of (slice l.i l.next l.notes)))
    (places_at (meant [] l.o).glue l.mail l.at l.start l.later (lines_of (slice l.at l.next l.notes))) (places_at (meant [] l.o).glue l.mail l.i l.skip l.later (lines_of (slice l.i l.next l.notes))) l.n l.table

abbrev pub decreases-loop-i : goal.decreases-loop-i
decreases-loop-i l = l.next - l.i
