-- `knuth_plass::telling::told_round` meets its contract. The answer of all turns, settled, and what makes the break of it.
use Rattle.knuth_plass.specs.Cited.Table.{table_in, active_in}
use Rattle.knuth_plass.proofs.Makers.{told_is}
use Rattle.knuth_plass.proofs.telling.told_round.Goals as goal

pub returns : goal.returns
returns c =
    let a = c.args in
    let turn = c.round_of-r.ensures in
    told_is a.g.setting a.last a.sentence a.i _ _ _ a.st (table_in a.breaks.now) (active_in a.breaks.now) _ _ _ _ _ _ _
    c.added_space-space.ensures.is
    (rw (turn.0, turn.1) at c.advance-s.ensures.1)
    (rw (turn.0, turn.1) at c.maker-ending.ensures)
    (rw (turn.0, turn.1) at c.settle.ensures)
