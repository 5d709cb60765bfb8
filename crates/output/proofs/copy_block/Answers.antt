-- `output::copy_block` meets its contract.
use mathlib.Core.Path.{◌∙◌}
use Rattle.output.proofs.Copies.{block_wrote}
use Rattle.output.proofs.copy_block.Goals as goal

pub returns : goal.returns
returns g c = block_wrote _ _ _ _ _ c.requires.0 c.requires.1 (c.copy_from_slice-2.ensures.after ∙ c.copy_from_slice.ensures.after)
