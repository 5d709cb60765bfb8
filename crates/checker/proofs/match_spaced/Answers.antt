-- `checker::match_spaced` meets its contract.
use native.Mathlib.Omega.{arith}
use Rattle.checker.proofs.Spots.{spaced_short, spaced_few, spaced_text}
use Rattle.checker.proofs.match_spaced.Goals as goal

pub returns-then-g-p : goal.returns-then-g-p
returns-then-g-p c =
    spaced_short _ _ _ _ c.requires _ c.over_gap-g.ensures c.if-g-p.true

pub returns-then-g-own : goal.returns-then-g-own
returns-then-g-own c =
    spaced_few _ _ _ _ c.requires _ c.over_gap-g.ensures _ c.own_no_breaks-own.ensures.0 (omega (arith, c.if-g-p.false)) c.if-g-own.true

pub returns : goal.returns
returns c =
    spaced_text _ _ _ _ c.requires _ c.over_gap-g.ensures _ c.own_no_breaks-own.ensures.0 (omega (arith, c.if-g-p.false)) (omega (arith, c.if-g-own.false)) c.match_text.ensures
