-- `knuth_plass::listed::advance` meets its contract. Invariant: what is done and what is still to do come to the answer of the whole round. The measure is what is still to do.
use mathlib.Core.Path.{refl, ap, ◌∙◌}
use Rattle.knuth_plass.specs.Cited.Table.{table_in, active_in}
use Rattle.knuth_plass.specs.Cited.Round.{lessened}
use Rattle.knuth_plass.proofs.Over.{first_room, fit_first, goes_first, fit_end, done}
use Rattle.knuth_plass.proofs.listed.advance.Goals as goal

pub get_break-requires : goal.get_break-requires
get_break-requires c = let a = c.args in let p = c.requires in first_room a.r.now.goals.setting a.r.now.turn a.st (table_in a.breaks.now) (active_in a.breaks.now) p.0 p.1 _ c.active-first.ensures

pub loop-k-init : goal.loop-k-init
loop-k-init c =
    let a = c.args in
    let p = c.requires in
    let is = c.lessened-b.ensures ∙ ap (lessened a.st.reduction) c.get_break.ensures in
    (refl, fit_first a.r.now.goals.setting a.r.now.turn a.st (table_in a.breaks.now) (active_in a.breaks.now) p.0 p.1 _ c.active-first.ensures _ _ is, goes_first a.r.now.goals.setting a.r.now.turn a.st (table_in a.breaks.now) (active_in a.breaks.now) p.0 p.1 _ c.active-first.ensures _ _ is)

pub returns : goal.returns
returns c =
    let l = c.loop-k in
    (fit_end _ _ _ _ _ _ c.loop-k-test.false l.invariant.1, λ notes. done _ _ _ _ _ _ c.loop-k-test.false _ _ notes (l.invariant.2 notes))
