-- `fold::are_plain` meets its contract: it says so only where each test held.
use borrow.Author.Rules.{rules}
use Rattle.text.proofs.Rows.{all_at}
use Rattle.fold.proofs.Plains.{plain_eight}
use Rattle.fold.proofs.are_plain.Goals as goal

pub returns : goal.returns
unfolding all_at
returns c = λ e. plain_eight _ _ (search rules) e
