-- `rudignals::indexing::rudignals_write_indexed` meets its contract: what `write_marked` tells of the answer, with the records that
-- `store_records` reads from its marks.
use Rattle.rudignals.proofs.Filling.{left}
use Rattle.rudignals.proofs.indexing.rudignals_write_indexed.Goals as goal

pub returns : goal.returns
returns c = left _ c.args.output.now c.args.index.now _ _ _ _ _ c.write_marked-t.ensures c.store_records.ensures
