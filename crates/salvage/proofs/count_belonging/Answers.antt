-- `salvage::count_belonging` meets its contract. Invariant: what belongs is what was counted and what is left.
use mathlib.Core.Path.{◌≡◌, refl, sym, ◌∙◌}
use native.Mathlib.Omega.{arith}
use Rattle.salvage.proofs.Back.{listed_length, counting_last, count_stops, count_goes_on}
use Rattle.salvage.proofs.count_belonging.Goals as goal

pub loop-k-preserved : goal.loop-k-preserved
loop-k-preserved c =
    let s = c.args in
    let l = c.loop-k in
    count_goes_on s.places.now s.bytes.now l.k _ c.min-count.ensures c.loop-k-test.true refl l.invariant (omega (arith, c.type_inv.bytes l.k)) (sym c.if-not-is_belonging.false ∙ c.is_belonging.ensures)

pub returns-then-not-is_belonging : goal.returns-then-not-is_belonging
returns-then-not-is_belonging c =
    let s = c.args in
    let l = c.loop-k in
    count_stops s.places.now s.bytes.now l.k _ c.min-count.ensures c.loop-k-test.true refl l.invariant (sym c.if-not-is_belonging.true ∙ c.is_belonging.ensures)

pub returns : goal.returns
returns c =
    let l = c.loop-k in
    let e : c.min-count.result ≡ l.k = omega arith in
    e ∙ counting_last l.invariant (omega (arith, listed_length c.args.places.now c.args.bytes.now, c.min-count.ensures))
