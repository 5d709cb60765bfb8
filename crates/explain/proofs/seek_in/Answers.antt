-- `explain::seek_in` meets its contract.
use lib.ListN.{length-replicate}
use Rattle.walk.proofs.Steps.{room_small}
use Rattle.explain.proofs.seek_in.Goals as goal

pub whole_as_slice-seek_with : goal.whole_as_slice-seek_with
whole_as_slice-seek_with g c = room_small _ _ c.requires.1

pub returns : goal.returns
returns g c = rw length-replicate at c.seek_with.ensures
