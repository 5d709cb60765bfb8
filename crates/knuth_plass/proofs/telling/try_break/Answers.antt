-- `knuth_plass::telling::try_break` meets its contract.
use Rattle.knuth_plass.proofs.Makers.{tried_short, tried_long, tried_other, tried_here}
use Rattle.knuth_plass.proofs.telling.try_break.Goals as goal
use Rattle.knuth_plass.proofs.telling.try_break.Goals.{then-b-minimum-via-then-b-minimum, then-b-minimum-via-else-b-minimum+then-g-b}

pub returns-then-b-minimum : goal.returns-then-b-minimum
returns-then-b-minimum c =
    let a = c.args in
    elim c.then-b-minimum.branch [
      | then-b-minimum-via-then-b-minimum w ↦ tried_short a.g.setting a.weight a.total _ _ _ (rw c.minimum.ensures at w.if-b-minimum.true)
      | then-b-minimum-via-else-b-minimum+then-g-b w ↦ tried_long a.g.setting a.weight a.total _ _ _ (rw c.minimum.ensures at w.if-b-minimum.false) w.if-g-b.true
    ]

pub returns-then-cost-b : goal.returns-then-cost-b
returns-then-cost-b c =
    let a = c.args in
    let r = rw c.stretch.ensures at c.ratio-ratio.ensures in
    tried_other a.g.setting a.weight a.total _ _ _ (rw c.minimum.ensures at c.if-b-minimum.false) c.if-g-b.false _ _ r.0 (rw c.ratio_of-old.ensures at c.cost-cost.ensures.0) c.if-cost-b.true

pub returns : goal.returns
returns c =
    let a = c.args in
    let r = rw c.stretch.ensures at c.ratio-ratio.ensures in
    tried_here a.g.setting a.weight a.total _ _ _ (rw c.minimum.ensures at c.if-b-minimum.false) c.if-g-b.false _ _ r.0 (rw c.ratio_of-old.ensures at c.cost-cost.ensures.0) _ _ c.if-cost-b.false c.line_term.ensures.0 (rw c.ratio_of-old.ensures at c.ratio_term.ensures.0)
