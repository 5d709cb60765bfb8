-- RULES 7 and 8: what a paragraph is broken with, and by which breaker.
use Rattle.std.specs.Prelude.{Bool, true, false, ◌||◌, List, ℕ}
use Rattle.options.specs.Opts.{Opts}
use Rattle.records.specs.Word.{Word}
use Rattle.spacing.specs.declared.Setting.{Setting}
use Rattle.quick.specs.Quick.{quick_breaks}
use Rattle.knuth_plass.specs.KnuthPlass.{best_breaks}

-- what a paragraph is broken with: the options, and the columns of its first indent and its indent. Mail always counts as uniform
unfoldable pub setting_of : Opts → Bool → ℕ → ℕ → Setting
setting_of o mail first indent = record {
  width = o.width;
  goal = o.goal;
  tab = o.tab;
  uniform = o.uniform || mail;
  first = first;
  indent = indent;
}

abbrev pub breaks_by : Bool → Setting → List Word → List Bool
breaks_by quick g ws = elim quick [ true ↦ quick_breaks g ws | false ↦ best_breaks g ws ]
