-- `walk::put_all_lent` meets its contract.
use mathlib.Core.Path.{◌∙◌}
use lib.ListN.{length}
use Rattle.options.specs.Opts.{meant}
use Rattle.output.proofs.Sink.{left_last}
use Rattle.paragraphs.specs.Cited.Steps.{room_for}
use Rattle.walk.proofs.Loop.{all_output, stands_first}
use Rattle.walk.proofs.Lent.{enough}
use Rattle.walk.proofs.put_all_lent.Goals as goal

pub put_lines-requires : goal.put_lines-requires
put_lines-requires c = stands_first _

pub put_lent-requires : goal.put_lent-requires
unfolding meant
put_lent-requires c =
    let t = c.in-Text.ensures (room_for c.args.notes.options.quick (length c.args.work.now)) in
    rw t.0 (t.1.long ∙ enough _ _ _ c.requires)

pub returns-in-End : goal.returns-in-End
returns-in-End c = rw all_output at (c.in-End.ensures 0).1

pub returns-in-Text : goal.returns-in-Text
returns-in-Text c =
    let t = c.in-Text.ensures 0 in
    left_last (rw all_output at t.1.left) (rw t.0 at c.put_lent.ensures)
