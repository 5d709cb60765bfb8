-- `checker::match_margin` meets its contract.
use Rattle.std.proofs.Common.{rules, replicate}
use Rattle.checker.proofs.Spots.{append_fault, append_on, part_text}
use Rattle.checker.proofs.match_margin.Goals as goal

pub returns-in_err-q : goal.returns-in_err-q
returns-in_err-q c = search (rules, append_fault _ (replicate c.args.m.more 32) _ c.args.p (part_text _ _ _ _ c.args.p c.requires.0.order c.in_err-q.ensures))

pub returns : goal.returns
returns c =
    append_on _ _ _ c.args.p (part_text _ _ _ _ c.args.p c.requires.0.order c.in_ok-q.ensures) c.match_spaces.ensures
