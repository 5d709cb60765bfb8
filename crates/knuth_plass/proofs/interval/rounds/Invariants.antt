use Prim.Native.Nat.{◌-◌, ◌≤◌}
use Rattle.knuth_plass.specs.Cited.Table.{records_part, table_in}
use Rattle.knuth_plass.specs.Cited.Round.{Lent, Worked}
use Rattle.knuth_plass.proofs.Intervals.{Along}
use Rattle.knuth_plass.proofs.Skipping.{mark_at}
use Rattle.knuth_plass.proofs.interval.rounds.Given as goal

abbrev pub invariant-loop-i : goal.invariant-loop-i
invariant-loop-i l =
    (1 ≤ l.i)
    × (l.i ≤ l.n)
    × Lent l.n l.work
    × Worked l.n l.fn.work l.work
    × Along l.g.setting l.n l.fn.work l.i (mark_at l.n l.fn.work l.i) l.s (table_in (records_part l.n l.work))

abbrev pub decreases-loop-i : goal.decreases-loop-i
decreases-loop-i l = l.n - l.i
