-- `checker::match_line` meets its contract.
use Rattle.std.proofs.Common.{rules}
use Rattle.checker.specs.Matching.{match_feed, match_line}
use Rattle.checker.proofs.Spots.{then_fault, then_on}
use Rattle.checker.proofs.match_line.Goals as goal

pub returns-in_err-q : goal.returns-in_err-q
unfolding match_line
returns-in_err-q c = search (rules, then_fault match_feed c.in_err-q.ensures)

pub returns : goal.returns
unfolding match_line
returns c = then_on match_feed c.in_ok-q.ensures c.match_feed.ensures
