-- `knuth_plass::store::put_place` meets its contract. Two stores, one by one.
use Rattle.knuth_plass.proofs.Table.{stored_place}
use Rattle.knuth_plass.proofs.store.put_place.Goals as goal

pub returns : goal.returns
returns c = stored_place _ _ _ _ c.from.ensures
