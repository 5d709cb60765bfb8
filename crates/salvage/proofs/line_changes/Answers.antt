-- `salvage::line_changes` meets its contract.
use mathlib.Core.Path.{sym, ◌∙◌}
use Rattle.salvage.proofs.Counts.{counted_found, counted_changed}
use Rattle.salvage.proofs.line_changes.Goals as goal

pub returns-then-is_well_formed : goal.returns-then-is_well_formed
returns-then-is_well_formed c = counted_found _ (sym c.is_well_formed.ensures ∙ c.if-is_well_formed.true)

pub returns-else-is_well_formed : goal.returns-else-is_well_formed
returns-else-is_well_formed c = counted_changed _ _ (sym c.is_well_formed.ensures ∙ c.if-is_well_formed.false) c.high_bytes.ensures
