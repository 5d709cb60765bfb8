-- `indexer::write_marked` meets its contract.
use Rattle.formatter.specs.Format.{own_room}
use Rattle.formatter.proofs.Values.{own_room_sound}
use Rattle.indexer.proofs.Values.{told_fits, told_few, marked}
use Rattle.indexer.proofs.write_marked.Goals as goal

pub tell-requires : goal.tell-requires
tell-requires c = rw c.write_pieces.ensures.is (told_fits own_room own_room_sound _ _ _ _)

pub returns : goal.returns
returns c = marked c.write_pieces.ensures (told_few own_room _ _ _ _) c.tell.ensures
