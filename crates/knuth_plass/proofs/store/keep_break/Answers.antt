-- `knuth_plass::store::keep_break` meets its contract. Four stores, one by one.
use Rattle.knuth_plass.proofs.Table.{stored_line}
use Rattle.knuth_plass.proofs.store.keep_break.Goals as goal

pub returns : goal.returns
returns c = stored_line _ _ _ _ c.from.ensures
