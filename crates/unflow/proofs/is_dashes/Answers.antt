-- `unflow::is_dashes` meets its contract.
use mathlib.Core.Path.{◌∙◌}
use Rattle.unflow.proofs.Lines.{dashes_told}
use Rattle.unflow.proofs.is_dashes.Goals as goal

pub returns : goal.returns
returns c = rw c.as_slice.ensures at c.eq.ensures ∙ dashes_told c.args.s.now
