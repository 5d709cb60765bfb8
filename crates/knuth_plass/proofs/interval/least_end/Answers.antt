-- `knuth_plass::interval::least_end` meets its contract.
use native.Mathlib.Omega.{arith}
use Rattle.knuth_plass.specs.Cited.Table.{break_meant, seen}
use Rattle.knuth_plass.proofs.Table.{has_room}
use Rattle.knuth_plass.proofs.Span.{columns_at}
use Rattle.knuth_plass.proofs.interval.least_end.Goals as goal

pub number-requires : goal.number-requires
number-requires c = (has_room c.args.breaks.now c.args.head c.requires, omega arith)

pub returns : goal.returns
unfolding break_meant seen
returns c =
    let a = c.args in
    let l = c.args.g.limits in
    let w = l.wide in
    let o = l.over in
    let m = c.number.ensures.1 in
    let e = columns_at a.breaks.now a.head c.requires in
    let n = c.number.ensures.0 in
    let d = c.saturating_sub.ensures in
    (omega arith, omega arith)
