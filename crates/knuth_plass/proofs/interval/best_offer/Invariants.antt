use mathlib.Core.Path.{◌≡◌}
use mathlib.Core.Bool.{false}
use mathlib.Core.List.{List}
use Prim.Native.Nat.{ℕ, ◌+◌, ◌-◌, ◌<◌}
use Rattle.records.specs.Word.{meaning}
use Rattle.knuth_plass.specs.KnuthPlass.{lesser}
use Rattle.knuth_plass.specs.Cited.Table.{table_in}
use Rattle.knuth_plass.specs.Cited.Round.{BestFits, nothing, offer_made}
use Rattle.knuth_plass.specs.Cited.Interval.{near, best_entry, span}
use Rattle.knuth_plass.proofs.interval.best_offer.Given as goal

abbrev pub invariant-loop-k : goal.invariant-loop-k
invariant-loop-k l =
    (l.best.total < nothing → BestFits l.r.turn.number l.size l.best)
    × ((notes : List ℕ) (gap : ℕ)
    → lesser (offer_made (l.x + gap) false l.r.turn.number (table_in l.breaks) l.best) (best_entry l.r.goals.setting l.r.turn.number l.x gap (meaning notes l.r.turn.word) (near l.r.goals.setting l.x (span (table_in l.breaks) l.k (l.size - l.k))))
    ≡ best_entry l.r.goals.setting l.r.turn.number l.x gap (meaning notes l.r.turn.word) (near l.r.goals.setting l.x (span (table_in l.breaks) l.head (l.size - l.head))))
