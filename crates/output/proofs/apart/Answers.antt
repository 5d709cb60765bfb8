-- `output::apart` meets its contract.
use borrow.Author.Tests.{not-false}
use Rattle.output.proofs.Runs.{joins}
use Rattle.output.proofs.apart.Goals as goal

pub returns-else-end-added : goal.returns-else-end-added
returns-else-end-added c = λ e. joins _ _ _ _ c.requires.0 c.if-end-added.false (c.all_spaces.ensures (not-false _ e))
