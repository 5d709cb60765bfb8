use mathlib.Core.Path.{◌≡◌}
use mathlib.Core.List.{List, map}
use Prim.Native.Nat.{ℕ}
use lib.ListN.{length}
use Rattle.knuth_plass.specs.KnuthPlass.{reduced}
use Rattle.knuth_plass.specs.Cited.Table.{table_in, active_in}
use Rattle.knuth_plass.specs.Cited.Round.{breaks_listed, Fit, RoundGoes}
use Rattle.knuth_plass.proofs.Over.{answer}
use Rattle.knuth_plass.proofs.listed.advance.Given as goal

abbrev pub invariant-loop-k : goal.invariant-loop-k
invariant-loop-k l =
    (length l.breaks ≡ length l.initial.breaks)
    × Fit l.r.turn l.st l.k (table_in l.breaks) (active_in l.breaks) l.s
    × ((notes : List ℕ)
    → RoundGoes l.r.goals.setting l.r.turn l.st (answer l.r.goals.setting l.r.turn (map (reduced l.st.reduction) (breaks_listed l.st.count (table_in l.initial.breaks) (active_in l.initial.breaks))) notes) l.k (table_in l.breaks) (active_in l.breaks) l.s)
