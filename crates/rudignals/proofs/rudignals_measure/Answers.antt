-- `rudignals::rudignals_measure` meets its contract.
use Rattle.formatter.specs.Format.{own_room}
use Rattle.formatter.proofs.Values.{own_room_sound, measured_fits}
use Rattle.rudignals.proofs.rudignals_measure.Goals as goal

pub number_of-requires : goal.number_of-requires
number_of-requires c = rw c.measure.ensures (measured_fits own_room own_room_sound _ _)
