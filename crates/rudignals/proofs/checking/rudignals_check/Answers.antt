-- `rudignals::checking::rudignals_check` meets its contract.
use Rattle.formatter.specs.Format.{own_room}
use Rattle.formatter.proofs.Values.{own_room_sound}
use Rattle.judge.proofs.Values.{number_fits}
use Rattle.rudignals.proofs.checking.rudignals_check.Goals as goal

pub number_of-requires : goal.number_of-requires
number_of-requires c = rw c.check.ensures (number_fits own_room own_room_sound _ _ _)
