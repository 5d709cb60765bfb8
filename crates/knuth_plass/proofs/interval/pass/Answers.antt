-- `knuth_plass::interval::pass` meets its contract. Invariant: what stays of those from here is what stays of all.
use mathlib.Core.Path.{◌∙◌}
use native.Mathlib.Omega.{arith}
use Rattle.knuth_plass.specs.Cited.Table.{table_in}
use Rattle.knuth_plass.proofs.Table.{has_room}
use Rattle.knuth_plass.proofs.Span.{columns_at, pass_stops, pass_goes, pass_ends}
use Rattle.knuth_plass.proofs.interval.pass.Goals as goal

pub number-requires : goal.number-requires
number-requires c =
    let r = c.requires.2 in
    let t = c.loop-k-test.true in
    (has_room c.args.breaks.now c.loop-k.k (omega arith), omega arith)

pub returns-then-end-g : goal.returns-then-end-g
returns-then-end-g c =
    let a = c.args in
    let room = c.requires.2 in
    let l = c.loop-k in
    let t = c.loop-k-test.true in
    let e = columns_at a.breaks.now l.k (omega arith) in
    let n = c.number.ensures.0 in
    let h = c.if-end-g.true in
    record { from = l.auto.k; to = omega arith; is = l.invariant ∙ pass_stops a.g.setting (table_in a.breaks.now) a.x l.k a.size t (omega arith) }

pub loop-k-preserved : goal.loop-k-preserved
loop-k-preserved c =
    let a = c.args in
    let room = c.requires.2 in
    let l = c.loop-k in
    let t = c.loop-k-test.true in
    let e = columns_at a.breaks.now l.k (omega arith) in
    let n = c.number.ensures.0 in
    let h = c.if-end-g.false in
    l.invariant ∙ pass_goes a.g.setting (table_in a.breaks.now) a.x l.k a.size t (omega arith)

pub returns : goal.returns
returns c =
    let a = c.args in
    let l = c.loop-k in
    record { from = c.requires.1; to = omega arith; is = l.invariant ∙ pass_ends (table_in a.breaks.now) l.k a.size c.loop-k-test.false a.g.setting a.x }
