-- `knuth_plass::store::store_break` meets its contract. The place, the line and the ratio, one by one.
use Rattle.knuth_plass.specs.Cited.Table.{with_record}
use Rattle.knuth_plass.proofs.store.store_break.Goals as goal

pub returns : goal.returns
unfolding with_record
returns c = rw (c.keep_break.ensures, c.put_place.ensures)
