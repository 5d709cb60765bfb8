use mathlib.Core.List.{List}
use mathlib.Core.Path.{◌≡◌}
use Prim.Native.Nat.{ℕ, ◌<◌, ◌^◌}
use Rattle.records.specs.Cited.Table.{word_in, words_in}
use Rattle.records.specs.Cited.Marks.{with_marks}
use Rattle.quick.specs.Quick.{quick_breaks}
use Rattle.quick.proofs.Laws.{breaks_from}
use Rattle.quick.proofs.quick_breaks.Given as goal

abbrev pub invariant-loop-i : goal.invariant-loop-i
invariant-loop-i l =
    (l.column < 2 ^ 34) × ((j : ℕ) → word_in l.table j ≡ word_in l.initial.table j)
    × ((notes : List ℕ) → with_marks l.table l.i (breaks_from l.g notes l.initial.table l.n l.column l.punct l.i) ≡ with_marks l.initial.table 1 (quick_breaks l.g (words_in notes l.n l.initial.table)))
