-- `lines::are_feedless` meets its contract: it says so only where each test held.
use borrow.Author.Rules.{rules}
use Rattle.text.proofs.Rows.{all_at}
use Rattle.lines.proofs.Lines.{body_eight}
use Rattle.lines.proofs.are_feedless.Goals as goal

pub returns : goal.returns
unfolding all_at
returns c = λ e. body_eight _ _ (search rules) e
