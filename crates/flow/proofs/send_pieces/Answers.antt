-- `flow::send_pieces` meets its contract. Invariant: what is left of the work from the first place on, and the room, which keeps its length.
use mathlib.Core.Path.{refl}
use mathlib.Core.Bool.{true}
use native.Mathlib.Omega.{arith}
use lib.ListN.{length}
use Rattle.paragraphs.specs.Cited.Steps.{room_for}
use Rattle.flow.proofs.Course.{going_first, going_on, going_last, stepped_on}
use Rattle.flow.proofs.send_pieces.Goals as goal

pub loop-c-init : goal.loop-c-init
loop-c-init c = (going_first _ _ _ _, refl)

pub loop-c-preserved : goal.loop-c-preserved
loop-c-preserved c =
    let i = c.loop-c.invariant in (going_on _ _ i.0 (stepped_on (room_for true (length c.args.work.now)) _ _ _ _ _ (rw i.1 at c.send_piece.ensures) c.in-Ok.is), omega (arith, i.1))

pub returns : goal.returns
returns c = going_last _ _ c.loop-c.invariant.0 (omega (arith, c.loop-c-test.false))
