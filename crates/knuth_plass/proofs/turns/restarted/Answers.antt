-- `knuth_plass::turns::restarted` meets its contract. One law for each way through it.
use mathlib.Core.Path.{refl}
use lib.Ieee.{of_bits, neg}
use Rattle.knuth_plass.proofs.Restart.{restarted_fresh, restarted_after, restarted_before}
use Rattle.knuth_plass.proofs.turns.restarted.Goals as goal
use Rattle.knuth_plass.proofs.turns.restarted.Goals.{then-least-via-then-least, then-least-via-else-least+then-t-least}

pub returns-then-least : goal.returns-then-least
unfolding of_bits neg
returns-then-least c =
    elim c.then-least.branch [
      | then-least-via-then-least w ↦ restarted_fresh c.args.r.now.goals.setting c.args.r.now.turn c.args.n c.args.least c.args.r.now.goals.limits c.args.r.now.turns _ refl w.if-least.true
      | then-least-via-else-least+then-t-least w ↦ restarted_after c.args.r.now.goals.setting c.args.r.now.turn c.args.n c.args.least c.args.r.now.goals.limits c.args.r.now.turns _ c.reach-t.ensures.0 w.if-least.false _ refl (rw w.minimum.ensures at w.if-t-least.true)
    ]

pub returns : goal.returns
unfolding of_bits neg
returns c =
    restarted_before c.args.r.now.goals.setting c.args.r.now.turn c.args.n c.args.least c.args.r.now.goals.limits c.args.r.now.turns _ c.reach-t.ensures.0 c.if-least.false _ refl (rw c.minimum.ensures at c.if-t-least.false)
