-- `knuth_plass::marking::mark` meets its contract. One law for each way through it.
use Rattle.knuth_plass.proofs.Marks.{marked}
use Rattle.knuth_plass.proofs.marking.mark.Goals as goal

pub returns-then-at-n : goal.returns-then-at-n
returns-then-at-n c = marked c.args.n c.args.at c.args.work.now _ c.requires c.if-at-n.true c.mark.ensures
