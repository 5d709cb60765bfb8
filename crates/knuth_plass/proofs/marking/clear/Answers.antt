-- `knuth_plass::marking::clear` meets its contract. Invariant: the marks so far are clear, and all else is as it was.
use mathlib.Core.Bool.{false}
use native.Mathlib.Omega.{arith}
use Rattle.knuth_plass.proofs.Marks.{marking_set, cleared}
use Rattle.knuth_plass.proofs.marking.clear.Goals as goal

pub loop-i-preserved : goal.loop-i-preserved
loop-i-preserved c =
    let v = c.loop-i.invariant in
    let l = c.loop-i in
    let t = c.loop-i-test.true in (
      omega arith,
      marking_set c.args.n c.args.work.now l.work _ v.1 l.i false c.requires t c.mark.ensures,
      cleared c.args.n c.args.work.now l.work _ v.1 l.i c.requires t v.2 c.mark.ensures,
    )
