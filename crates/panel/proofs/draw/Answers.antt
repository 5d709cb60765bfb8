-- `panel::draw` meets its contract.
use mathlib.Core.Path.{refl}
use Rattle.panel.proofs.Panels.{stop_bounds, refused, done}
use Rattle.panel.proofs.draw.Goals as goal

pub returns-then-tab-gt100 : goal.returns-then-tab-gt100
returns-then-tab-gt100 c = refused _ _ c.if-tab-gt100.true

pub draw_newest-requires : goal.draw_newest-requires
draw_newest-requires c =
    let b = stop_bounds _ _ c.if-tab-gt100.false c.stop_width.ensures in
    (b.0, b.1, refl)

pub returns : goal.returns
returns c = done _ _ _ _ c.if-tab-gt100.false c.stop_width.ensures c.draw_newest.ensures
