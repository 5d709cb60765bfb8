-- `walk::put_lent` meets its contract: the room reaches to the end.
use native.Mathlib.Omega.{arith}
use lib.ListN.{length}
use Rattle.paragraphs.specs.Cited.Steps.{room_for}
use Rattle.walk.proofs.Courses.{lent_ended}
use Rattle.walk.proofs.put_lent.Goals as goal

pub unwrap-requires : goal.unwrap-requires
unwrap-requires c =
    let e = lent_ended _ c.args.text _ _ _ c.requires (c.put_texts.ensures (room_for c.args.text.notes.options.quick (length c.args.work.now)) (omega (arith, c.room_for-limit.ensures))) in
    rw e.1
