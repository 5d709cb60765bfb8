-- RULES 4.2: how many columns a character takes.
use Rattle.std.specs.Prelude.{ℕ, T}
use Rattle.widths.specs.Ranges.{width_in, ascending}
use Rattle.widths.specs.Table.{table}

unfoldable pub width_of : ℕ → ℕ
width_of c = width_in table c

-- the ranges ascend and never overlap: shown once, over all of the table, by computing
pub table_ascends : T (ascending 0 table)
unfolding ascending table
table_ascends = tt
