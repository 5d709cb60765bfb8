-- `knuth_plass::turns::offered` meets its contract. One law for each way through it: the last word, beaten, and any other.
use mathlib.Core.Path.{refl, ap₂, ◌∙◌}
use lib.Ieee.{Float, of_bits}
use Rattle.demerits.specs.Demerits.{cost_with}
use Rattle.demerits.proofs.Terms.{cost_with_law}
use Rattle.knuth_plass.proofs.Line.{offered_last_none, offered_last, offered_beaten, offered_full}
use Rattle.knuth_plass.proofs.turns.offered.Goals as goal

pub returns-then-b-gt0 : goal.returns-then-b-gt0
returns-then-b-gt0 c =
    let a = c.args in let p = c.requires in offered_last_none a.r.now.goals.setting a.r.now.turn a.n a.b a.best a.t p.0 a.r.now.turns p.1 c.if-r.true c.if-b-gt0.true

pub returns-then-r : goal.returns-then-r
unfolding of_bits
returns-then-r c =
    let a = c.args in
    let p = c.requires in
    rw c.better.ensures (offered_last a.r.now.goals.setting a.r.now.turn a.n a.b a.best a.t p.0 a.r.now.turns p.1 _ refl c.if-r.true c.if-b-gt0.false)

pub returns-then-best-floor : goal.returns-then-best-floor
returns-then-best-floor c =
    let a = c.args in
    let p = c.requires in
    let r = rw c.stretch-stretch.ensures at c.ratio-ratio.ensures in
    offered_beaten a.r.now.goals.setting a.r.now.turn a.n a.b a.best a.t p.0 a.r.now.turns p.1 _ _ c.if-r.false r.0 r.1 c.floor.ensures c.if-best-floor.true

pub returns : goal.returns
returns c =
    let a = c.args in
    let p = c.requires in
    let r = rw c.stretch-stretch.ensures at c.ratio-ratio.ensures in
    let o = c.cost-cost.ensures in
    let cost-is = o.0 ∙ ap₂ (λ (y z : Float). cost_with y z a.r.now.turn.weight) r.0 c.ratio_of.ensures ∙ cost_with_law _ _ _ _ _ a.r.now.turns.weight in
    rw c.better-2.ensures
    (offered_full a.r.now.goals.setting a.r.now.turn a.n a.b a.best a.t p.0 a.r.now.turns p.1 _ _ c.if-r.false r.0 cost-is o.1 r.1)
