-- `lines::are_blank` meets its contract: it says so only where each test held.
use borrow.Author.Rules.{rules}
use Rattle.text.proofs.Rows.{all_at}
use Rattle.lines.proofs.Turns.{blank_eight}
use borrow.Author.Rules.{rules}
use Rattle.lines.proofs.are_blank.Goals as goal

pub returns : goal.returns
unfolding all_at
returns c = λ e. let a = c.args in blank_eight a.s.now a.i (search rules) e
