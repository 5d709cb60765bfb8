-- `knuth_plass::interval::first_least` meets its contract. Invariant: the least of the one found and the rest is the least of all.
use mathlib.Core.Path.{◌∙◌, sym}
use Rattle.knuth_plass.specs.Cited.Table.{table_in}
use Rattle.knuth_plass.proofs.Lowest.{lesser_below}
use Rattle.knuth_plass.proofs.Span.{least_begins, least_goes, least_ends}
use Rattle.knuth_plass.proofs.interval.first_least.Goals as goal

pub loop-k-init : goal.loop-k-init
loop-k-init c =
    let a = c.args in
    let h = c.requires.0 in
    (h, least_begins (table_in a.breaks.now) a.head a.size h)

pub loop-k-preserved : goal.loop-k-preserved
loop-k-preserved c =
    let a = c.args in
    let table = table_in a.breaks.now in
    let l = c.loop-k in
    let v = l.invariant in
    let t = c.loop-k-test.true in (
      rw c.lesser-found.ensures (lesser_below table l.found l.k a.size v.0 t),
      rw c.lesser-found.ensures (least_goes table l.found l.k a.size t) ∙ v.1,
    )

pub returns : goal.returns
returns c =
    let a = c.args in
    let l = c.loop-k in
    let v = l.invariant in
    record { below = v.0; is = sym (least_ends (table_in a.breaks.now) l.k a.size c.loop-k-test.false l.found) ∙ v.1 }
