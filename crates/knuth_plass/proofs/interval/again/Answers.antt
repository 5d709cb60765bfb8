-- `knuth_plass::interval::again` meets its contract. The least entry, seen as an active break, begins again; its base is put in.
use Rattle.knuth_plass.specs.Cited.Table.{table_in}
use Rattle.knuth_plass.proofs.Again.{again_from}
use Rattle.knuth_plass.proofs.interval.again.Goals as goal

pub returns : goal.returns
returns c =
    let a = c.args in
    again_from a.r.now.goals.setting a.r.now.turn a.x a.gap a.s (table_in a.breaks.now) c.requires _ c.first_least-n.ensures _ _ _ _ _
    c.get_break.ensures c.viewed-least.ensures c.restarted-b.ensures c.base_of.ensures c.extended.ensures
