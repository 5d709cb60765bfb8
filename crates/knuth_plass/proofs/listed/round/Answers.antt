-- `knuth_plass::listed::round` meets its contract. The answer of all turns, settled.
use Rattle.knuth_plass.specs.Cited.Table.{table_in, active_in}
use Rattle.knuth_plass.proofs.Paragraph.{round_is}
use Rattle.knuth_plass.proofs.listed.round.Goals as goal

pub returns : goal.returns
returns c =
    let a = c.args in
    let turn = c.round_of-r.ensures in
    round_is a.g.setting a.last a.sentence a.i _ _ _ a.st (table_in a.breaks.now) (active_in a.breaks.now) _ _ _ _ _ _
    c.added_space-space.ensures.is
    (rw (turn.0, turn.1) at c.advance-s.ensures.1)
    (rw (turn.0, turn.1) at c.settle.ensures)
