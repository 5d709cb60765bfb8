use mathlib.Core.Path.{◌≡◌}
use mathlib.Core.Bool.{true, false}
use mathlib.Core.List.{[], ◌++◌}
use Prim.Native.Nat.{◌+◌, ◌-◌, ◌≤◌}
use lib.ListN.{length, drop}
use Rattle.lists.specs.Runs.{while}
use Rattle.text.specs.Characters.{is_blank}
use Rattle.text.specs.Cited.Places.{ink_glyphs}
use Rattle.options.specs.Opts.{meant}
use Rattle.records.specs.Cited.Table.{words_in}
use Rattle.words.specs.Words.{runs}
use Rattle.words.specs.Places.{places_from}
use Rattle.words.specs.Cited.Split.{places_in}
use Rattle.words.specs.Cited.Scan.{glyphs_behind, words_from}
use Rattle.words.proofs.Filling.{Filling}
use Rattle.words.proofs.split_some.Given as goal

abbrev pub invariant-loop-w : goal.invariant-loop-w
invariant-loop-w l =
    (l.r.at ≤ length l.s)
    × Filling l.most l.notes (words_in l.notes l.n l.initial.table ++ words_from (meant [] l.o) l.mail l.head l.punct (glyphs_behind (meant [] l.o).glue l.head (drop l.start l.s)))
    (words_from (meant [] l.o) l.mail l.r.first l.r.punct (glyphs_behind (meant [] l.o).glue l.r.first (drop l.r.at l.s)))
    (places_in l.n l.initial.table ++ places_from l.start (runs (glyphs_behind (meant [] l.o).glue l.head (drop l.start l.s)))) (places_from l.r.at (runs (glyphs_behind (meant [] l.o).glue l.r.first (drop l.r.at l.s)))) l.r.count l.table
    × (l.r.first ≡ true → while is_blank (ink_glyphs l.o.glue (drop l.r.at l.s)) ≡ [])
    × (l.start ≤ l.r.at)
    × (l.r.count + l.start ≤ l.n + l.r.at)
    × (l.r.more ≡ false)

abbrev pub decreases-loop-w : goal.decreases-loop-w
decreases-loop-w l = length l.s - l.r.at
