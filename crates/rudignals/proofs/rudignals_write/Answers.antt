-- `rudignals::rudignals_write` meets its contract.
use Rattle.formatter.specs.Format.{own_room}
use Rattle.formatter.proofs.Values.{own_room_sound, written_fits}
use Rattle.rudignals.proofs.rudignals_write.Goals as goal

pub number_of-requires : goal.number_of-requires
number_of-requires c = rw c.write.ensures.is (written_fits own_room own_room_sound _ _ _)
