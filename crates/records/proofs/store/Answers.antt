-- `records::store` meets its contract.
use Rattle.std.proofs.Common.{arith}
use mathlib.Core.Path.{◌∙◌}
use Rattle.records.proofs.Table.{stored_word}
use Rattle.records.proofs.store.Goals as goal

pub returns : goal.returns
returns c = c.put.ensures ∙ stored_word _ _ _ _ _ c.number_of.ensures (grind arith)
