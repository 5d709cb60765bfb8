-- `knuth_plass::telling::stands_before` meets its contract. Invariant: the path from here says what the whole path says.
use mathlib.Core.Path.{◌∙◌}
use Prim.Native.Nat.{◌<◌}
use native.Mathlib.Omega.{arith}
use Rattle.knuth_plass.specs.Cited.Table.{table_in}
use Rattle.knuth_plass.proofs.Asked.{before_here, before_on, before_none}
use Rattle.knuth_plass.proofs.telling.stands_before.Goals as goal

pub returns-then-starts-e : goal.returns-then-starts-e
returns-then-starts-e c =
    let v = c.loop-at.invariant in
    before_here (table_in c.args.breaks.now) c.args.last c.loop-at.at c.args.e _ _ c.requires.2 c.loop-at-test.true v.0 c.get_break-b.ensures c.starts.ensures c.if-starts-e.true ∙ v.1

pub loop-at-preserved : goal.loop-at-preserved
loop-at-preserved c =
    let v = c.loop-at.invariant in
    let d : c.get_break-b.result.previous < c.loop-at.at = rw c.get_break-b.ensures (c.requires.2 _ c.loop-at-test.true v.0).0 in
    (omega arith, before_on (table_in c.args.breaks.now) c.args.last c.loop-at.at c.args.e _ _ c.requires.2 c.loop-at-test.true v.0 c.get_break-b.ensures c.starts.ensures c.if-starts-e.false ∙ v.1)

pub returns : goal.returns
returns c =
    before_none (table_in c.args.breaks.now) _ c.args.e c.loop-at-test.false ∙ c.loop-at.invariant.1
