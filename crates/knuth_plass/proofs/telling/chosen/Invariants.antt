use mathlib.Core.Path.{◌≡◌}
use Rattle.knuth_plass.specs.Cited.Table.{table_in, active_in}
use Rattle.knuth_plass.proofs.Makers.{chosen_from}
use Rattle.knuth_plass.proofs.telling.chosen.Given as goal

abbrev pub invariant-loop-k : goal.invariant-loop-k
invariant-loop-k l =
    chosen_from l.g.setting l.weight l.total l.kept (table_in l.breaks) (active_in l.breaks) l.k ≡ chosen_from l.g.setting l.weight l.total l.kept (table_in l.breaks) (active_in l.breaks) 0
