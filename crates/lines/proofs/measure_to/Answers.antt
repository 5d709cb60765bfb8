-- `lines::measure_to` meets its contract. Invariant: what is left to measure up to the place leads where measuring it all does.
use Rattle.lines.proofs.Turns.{left_then, left_last}
use Rattle.lines.proofs.measure_to.Goals as goal

pub loop-spot-preserved : goal.loop-spot-preserved
loop-spot-preserved c = (c.behind-spot.ensures.inside, left_then c.behind-spot.ensures c.loop-spot-test.true c.loop-spot.invariant.1)

pub returns : goal.returns
returns c = let i = c.loop-spot.invariant in (i.0, left_last c.loop-spot-test.false i.1)
