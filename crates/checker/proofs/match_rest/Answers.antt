-- `checker::match_rest` meets its contract. Invariant: what is left of the words is what was left behind the first.
use Rattle.std.proofs.Common.{rules}
use native.Mathlib.Omega.{arith}
use Rattle.checker.proofs.Rests.{word_within, rest_fault, rest_more, rest_last}
use Rattle.checker.proofs.match_rest.Goals as goal

pub returns-in_err-p : goal.returns-in_err-p
returns-in_err-p c =
    let w = word_within c.requires.0.words c.get-w.ensures c.loop-i-test.true in search (rules, rest_fault _ _ _ _ _ _ _ _ _ c.loop-i.invariant _ c.get-w.ensures c.loop-i-test.true w.text c.in_err-p.ensures)

pub loop-i-preserved : goal.loop-i-preserved
loop-i-preserved c =
    let w = word_within c.requires.0.words c.get-w.ensures c.loop-i-test.true in rest_more _ _ _ _ _ _ _ _ _ c.loop-i.invariant _ c.get-w.ensures c.loop-i-test.true w.text c.in_ok-p.ensures

pub returns : goal.returns
returns c = rest_last _ _ _ _ _ _ _ _ _ c.loop-i.invariant (omega (arith, c.loop-i-test.false)) c.match_feed.ensures
