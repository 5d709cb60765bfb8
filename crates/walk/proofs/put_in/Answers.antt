-- `walk::put_in` meets its contract.
use native.Mathlib.Omega.{arith}
use lib.ListN.{length-replicate}
use Rattle.walk.specs.Digest.{most_words}
use Rattle.walk.proofs.Steps.{room_small}
use Rattle.walk.proofs.put_in.Goals as goal

pub whole_as_slice-put_texts : goal.whole_as_slice-put_texts
whole_as_slice-put_texts g c = room_small _ _ c.requires

pub returns : goal.returns
returns g c = rw length-replicate at (c.put_texts.ensures most_words (omega arith))
