-- `rudignals::indexing::rudignals_write_indexed_large` meets its contract. The working room is the host's: it comes back with the marks that
-- `write_marked_large` leaves in it, and `store_records` reads the records from them.
use Rattle.rudignals.proofs.Filling.{left}
use Rattle.rudignals.proofs.indexing.rudignals_write_indexed_large.Goals as goal

pub returns : goal.returns
returns c = left _ c.args.output.now c.args.index.now _ _ _ _ _ c.write_marked_large-t.ensures c.store_records.ensures
