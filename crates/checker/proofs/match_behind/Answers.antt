-- `checker::match_behind` meets its contract.
use Rattle.std.proofs.Common.{rules}
use Rattle.checker.proofs.Spots.{append_fault, append_on}
use Rattle.checker.proofs.match_behind.Goals as goal

pub returns-in_err-q : goal.returns-in_err-q
returns-in_err-q c = search (rules, append_fault _ c.args.word.now _ c.args.p c.in_err-q.ensures)

pub returns : goal.returns
returns c = append_on _ _ _ c.args.p c.in_ok-q.ensures c.match_text.ensures
