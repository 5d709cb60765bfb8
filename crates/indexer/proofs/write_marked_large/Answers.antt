-- `indexer::write_marked_large` meets its contract.
use lib.ListN.{length}
use Rattle.indexer.specs.Indexing.{index_lending}
use Rattle.indexer.proofs.Values.{told_fits, told_few, marked, index_lending_sound}
use Rattle.indexer.proofs.write_marked_large.Goals as goal

pub tell-requires : goal.tell-requires
tell-requires c = rw c.write_lent.ensures.is (told_fits (index_lending (length c.args.work.now)) (index_lending_sound (length c.args.work.now)) _ _ _ _)

pub returns : goal.returns
returns c = marked c.write_lent.ensures (told_few (index_lending (length c.args.work.now)) _ _ _ _) c.tell.ensures
