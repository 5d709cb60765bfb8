-- `fold::stay_end` meets its contract. Invariant: from here the row ends where it ends from the start.
use Prim.Native.Nat.{◌+◌, ◌-◌}
use native.Mathlib.Omega.{arith}
use Rattle.fold.proofs.Stays.{Going, going_plain, going_on, going_end, going_past}
use Rattle.fold.proofs.stay_end.Goals as goal

pub returns-then-plain-line : goal.returns-then-plain-line
returns-then-plain-line c =
    let plain : Going c.args.tab c.args.columns c.args.line.now c.args.from c.args.start c.plain_end-plain.result (c.loop-at.column + (c.plain_end-plain.result - c.loop-at.at)) =
    let p = c.requires in
    going_plain _ _ _ c.loop-at.invariant p.4 p.2 c.saturating_sub.ensures c.plain_end-plain.ensures.0 c.plain_end-plain.ensures.1 in
    going_past _ _ _ plain (omega arith)

pub returns-then-columns-next : goal.returns-then-columns-next
returns-then-columns-next c =
    let plain : Going c.args.tab c.args.columns c.args.line.now c.args.from c.args.start c.plain_end-plain.result (c.loop-at.column + (c.plain_end-plain.result - c.loop-at.at)) =
    let p = c.requires in
    going_plain _ _ _ c.loop-at.invariant p.4 p.2 c.saturating_sub.ensures c.plain_end-plain.ensures.0 c.plain_end-plain.ensures.1 in
    going_end _ _ _ plain c.behind-next.ensures c.if-columns-next.true

pub loop-at-preserved : goal.loop-at-preserved
loop-at-preserved c =
    let plain : Going c.args.tab c.args.columns c.args.line.now c.args.from c.args.start c.plain_end-plain.result (c.loop-at.column + (c.plain_end-plain.result - c.loop-at.at)) =
    let p = c.requires in
    going_plain _ _ _ c.loop-at.invariant p.4 p.2 c.saturating_sub.ensures c.plain_end-plain.ensures.0 c.plain_end-plain.ensures.1 in
    going_on _ _ _ plain c.requires.4 c.behind-next.ensures c.if-columns-next.false

pub returns : goal.returns
returns c = going_past _ _ _ c.loop-at.invariant c.loop-at-test.false
