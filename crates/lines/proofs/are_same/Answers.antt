-- `lines::are_same` meets its contract: it says so only where each test held.
use borrow.Author.Rules.{rules}
use Rattle.lines.proofs.Same.{same_at, same_eight}
use Rattle.lines.proofs.are_same.Goals as goal

pub returns : goal.returns
unfolding same_at
returns c = let i = c.args in λ e. same_eight i.p.now i.s.now _ (search rules) (search rules) e
