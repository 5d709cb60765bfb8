use mathlib.Core.Path.{◌≡◌}
use mathlib.Core.Bool.{true, false, not}
use mathlib.Core.List.{[]}
use Prim.Native.Nat.{◌+◌, ◌-◌, ◌≤◌}
use lib.ListN.{length}
use lib.Seq.{slice}
use Rattle.lists.specs.Runs.{while}
use Rattle.text.specs.Characters.{is_blank}
use Rattle.text.specs.Cited.Places.{ink_glyphs}
use Rattle.options.specs.Opts.{meant}
use Rattle.records.specs.Cited.Table.{Holds}
use Rattle.words.specs.Cited.Taken.{words_between}
use Rattle.words.proofs.count_line.Given as goal

abbrev pub invariant-loop-o : goal.invariant-loop-o
invariant-loop-o l =
    (l.at ≤ l.end)
    × (l.count ≤ l.at)
    × (l.count + length (words_between (meant [] l.o) l.mail l.first l.punct l.notes l.at l.end) ≡ l.n + length (words_between (meant [] l.o) l.mail (not l.mail) false l.notes l.start l.end))
    × (l.first ≡ true → while is_blank (ink_glyphs l.o.glue (slice l.at l.end l.notes)) ≡ [])
    × Holds 16 l.table

abbrev pub decreases-loop-o : goal.decreases-loop-o
decreases-loop-o l = l.end - l.at
