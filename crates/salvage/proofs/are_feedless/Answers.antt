-- `salvage::are_feedless` meets its contract: it says so only where each test held.
use borrow.Author.Rules.{rules}
use Rattle.text.proofs.Rows.{all_at}
use Rattle.salvage.specs.Lines.{no_feed}
use Rattle.salvage.proofs.Runs.{run_eight}
use Rattle.salvage.proofs.are_feedless.Goals as goal

pub returns : goal.returns
unfolding all_at
returns c = λ e. run_eight no_feed _ _ (search rules) e
