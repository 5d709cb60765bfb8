-- `knuth_plass::listed::noted` meets its contract. One law for each way through it.
use Rattle.knuth_plass.proofs.Lowest.{noted_less, noted_not}
use Rattle.knuth_plass.proofs.listed.noted.Goals as goal

pub returns-then-demerits-s : goal.returns-then-demerits-s
returns-then-demerits-s c = let a = c.args in noted_less a.s a.n a.demerits c.if-demerits-s.true

pub returns-else-demerits-s : goal.returns-else-demerits-s
returns-else-demerits-s c = let a = c.args in noted_not a.s a.n a.demerits c.if-demerits-s.false
