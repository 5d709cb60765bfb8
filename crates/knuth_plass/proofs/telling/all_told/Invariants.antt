use mathlib.Core.Path.{◌≡◌}
use mathlib.Core.Bool.{false}
use mathlib.Core.List.{List}
use Prim.Native.Nat.{ℕ}
use lib.ListN.{drop}
use Rattle.records.specs.Word.{meaning}
use Rattle.records.specs.Cited.Table.{word_in, words_in}
use Rattle.knuth_plass.specs.KnuthPlass.{rounds_from}
use Rattle.knuth_plass.specs.BestLines.{makers_from, makers_of}
use Rattle.knuth_plass.specs.Cited.Table.{records_part, table_in, active_in}
use Rattle.knuth_plass.specs.Cited.Round.{Lent, Worked, RoundReady, standing, begin}
use Rattle.knuth_plass.proofs.Asked.{SoFar}
use Rattle.knuth_plass.proofs.telling.all_told.Given as goal

abbrev pub invariant-loop-i : goal.invariant-loop-i
invariant-loop-i l =
    Lent l.n l.work × Worked l.n l.fn.work l.work × RoundReady l.i l.st (table_in (records_part l.n l.work)) (active_in (records_part l.n l.work))
    × ((notes : List ℕ)
    → rounds_from l.g.setting l.sentence l.i (standing l.st (table_in (records_part l.n l.work)) (active_in (records_part l.n l.work))) (drop l.i (words_in notes l.n l.fn.work))
    ≡ rounds_from l.g.setting false 1 (begin l.g.setting (meaning notes (word_in l.fn.work 0))) (drop 1 (words_in notes l.n l.fn.work)))
    × ((notes : List ℕ) → SoFar (makers_of l.g.setting (words_in notes l.n l.fn.work)) l.e l.i (makers_from l.g.setting l.sentence l.i (standing l.st (table_in (records_part l.n l.work)) (active_in (records_part l.n l.work))) (drop l.i (words_in notes l.n l.fn.work))) l.first l.second)
