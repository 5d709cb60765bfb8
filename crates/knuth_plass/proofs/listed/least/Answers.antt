-- `knuth_plass::listed::least` meets its contract. Invariant: the least of the one found and the rest is the least of all.
use mathlib.Core.Path.{◌∙◌}
use native.Mathlib.Omega.{arith}
use Rattle.knuth_plass.specs.Cited.Table.{table_in, active_in}
use Rattle.knuth_plass.proofs.Lowest.{active_below, least_begins, least_goes, least_found}
use Rattle.knuth_plass.proofs.listed.least.Goals as goal

pub loop-k-init : goal.loop-k-init
loop-k-init c =
    let h = c.requires.some in
    (rw c.active-found.ensures (active_below c.args.st (table_in c.args.breaks.now) (active_in c.args.breaks.now) c.requires 0 h), rw c.active-found.ensures (least_begins c.args.st (table_in c.args.breaks.now) (active_in c.args.breaks.now) c.requires))

pub lesser-found-requires : goal.lesser-found-requires
lesser-found-requires c =
    let p = c.requires in
    (omega (arith, c.loop-k.invariant.0, p.size), rw c.active-n.ensures (omega (arith, active_below c.args.st (table_in c.args.breaks.now) (active_in c.args.breaks.now) c.requires c.loop-k.k c.loop-k-test.true, p.size)))

pub loop-k-preserved : goal.loop-k-preserved
loop-k-preserved c =
    let v = c.loop-k.invariant in
    let g = least_goes c.args.st (table_in c.args.breaks.now) (active_in c.args.breaks.now) c.requires c.loop-k.k c.loop-k.found c.lesser-found.result c.loop-k-test.true (rw c.active-n.ensures at c.lesser-found.ensures) v.0 in
    (g.0, g.1 ∙ v.1)

pub returns : goal.returns
returns c =
    let v = c.loop-k.invariant in least_found c.args.st (table_in c.args.breaks.now) (active_in c.args.breaks.now) c.requires c.loop-k.k c.loop-k.found c.loop-k-test.false v.0 v.1
