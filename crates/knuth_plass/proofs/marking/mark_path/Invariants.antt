use mathlib.Core.Path.{◌≡◌}
use mathlib.Core.Bool.{◌||◌}
use Prim.Native.Nat.{ℕ, ◌≤◌, ◌<◌}
use Rattle.records.specs.Cited.Marks.{mark_in}
use Rattle.knuth_plass.specs.KnuthPlass.{starts_line}
use Rattle.knuth_plass.specs.Cited.Table.{records_part, table_in, path_to}
use Rattle.knuth_plass.proofs.Marks.{Marking}
use Rattle.knuth_plass.proofs.marking.mark_path.Given as goal

abbrev pub invariant-loop-at : goal.invariant-loop-at
invariant-loop-at l =
    (l.at ≤ l.last) × Marking l.n l.initial.work l.work
    × ((j : ℕ) → j < l.n → (mark_in l.work j || starts_line j (path_to (table_in (records_part l.n l.initial.work)) l.at)) ≡ (mark_in l.initial.work j || starts_line j (path_to (table_in (records_part l.n l.initial.work)) l.last)))

abbrev pub decreases-loop-at : goal.decreases-loop-at
decreases-loop-at l = l.at
