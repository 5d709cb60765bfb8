-- `salvage::line_end` meets its contract. Invariant: what was passed has no line feed.
use Rattle.std.proofs.Common.{arith, ◌≡◌, length}
use Rattle.salvage.proofs.Lines.{line_feed, line_last}
use Rattle.salvage.proofs.line_end.Goals as goal

pub returns-then-s-i-eq10 : goal.returns-then-s-i-eq10
returns-then-s-i-eq10 c = line_feed _ _ _ c.requires c.loop-i.invariant c.loop-i-test.true c.if-s-i-eq10.true

pub returns : goal.returns
returns c =
    let e : length c.args.s.now ≡ c.loop-i.i = omega (arith, c.loop-i.invariant.within) in
    rw e (line_last _ _ _ c.requires c.loop-i.invariant c.loop-i-test.false)
