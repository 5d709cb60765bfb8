-- `knuth_plass::listed::visit` meets its contract. One law for each way through it: the break stays on a short line, is dropped, or stays and may offer.
use mathlib.Core.Path.{refl, ap, ◌∙◌}
use Prim.Native.Nat.{◌<◌}
use Rattle.knuth_plass.specs.Cited.Table.{table_in, active_in}
use Rattle.knuth_plass.specs.Cited.Round.{line_at, lessened}
use Rattle.knuth_plass.proofs.Table.{table_kept, active_kept}
use Rattle.knuth_plass.proofs.Step.{room, kept_room, sound, keep_room, fit_drops, goes_drops, keeps, offers, short_fits, short_offers}
use Rattle.knuth_plass.proofs.listed.visit.Goals as goal

pub get_break-requires : goal.get_break-requires
get_break-requires c =
    let a = c.args in let p = c.requires in room a.r.now.goals.setting a.r.now.turn a.st a.k (table_in a.breaks.now) (active_in a.breaks.now) a.s a.r.now.turns p.0 p.1 _ c.active-n.ensures

pub reach-t-requires : goal.reach-t-requires
reach-t-requires c =
    let a = c.args in
    let p = c.requires in
    rw (c.lessened-b.ensures, c.get_break.ensures) (sound a.r.now.goals.setting a.r.now.turn a.st a.k (table_in a.breaks.now) (active_in a.breaks.now) a.s a.r.now.turns p.0 p.1 _ c.active-n.ensures).columns

pub keep-requires : goal.keep-requires
keep-requires c =
    let a = c.args in
    let p = c.requires in
    let is = c.lessened-b.ensures ∙ ap (lessened a.st.reduction) c.get_break.ensures in
    keep_room a.r.now.goals.setting a.r.now.turn a.st a.k (table_in a.breaks.now) (active_in a.breaks.now) a.s a.r.now.turns p.0 p.1 _ c.active-n.ensures _ is _ _ a.breaks.now refl c.noted-seen.ensures a.r.now.goals.limits (short_fits a.r.now.goals.setting a.r.now.turn a.st a.k (table_in a.breaks.now) (active_in a.breaks.now) a.s a.r.now.turns p.0 p.1 _ c.active-n.ensures _ is _ a.r.now.goals.limits (rw c.minimum.ensures at c.if-t-minimum.true))

pub returns-then-t-minimum : goal.returns-then-t-minimum
returns-then-t-minimum c =
    let a = c.args in
    let p = c.requires in
    let is = c.lessened-b.ensures ∙ ap (lessened a.st.reduction) c.get_break.ensures in
    let line = c.reach-t.ensures.0 in
    let kept = c.keep.ensures in
    let here = room a.r.now.goals.setting a.r.now.turn a.st a.k (table_in a.breaks.now) (active_in a.breaks.now) a.s a.r.now.turns p.0 p.1 _ c.active-n.ensures in
    let last = kept_room a.r.now.goals.setting a.r.now.turn a.st a.k (table_in a.breaks.now) (active_in a.breaks.now) a.s a.r.now.turns p.0 p.1 _ c.active-n.ensures _ _ c.noted-seen.ensures in
    keeps a.r.now.goals.setting a.r.now.turn a.st a.k (table_in a.breaks.now) (active_in a.breaks.now) a.s a.r.now.turns p.0 p.1 _ c.active-n.ensures _ is _ _ a.r.now.goals.limits line _ _ _ _ c.noted-seen.ensures (table_kept a.breaks.now _ _ _ _ is here _ _ _ kept.0) (active_kept a.breaks.now _ _ _ _ is here _ _ _ last kept.0) kept.1
    (short_fits a.r.now.goals.setting a.r.now.turn a.st a.k (table_in a.breaks.now) (active_in a.breaks.now) a.s a.r.now.turns p.0 p.1 _ c.active-n.ensures _ is _ a.r.now.goals.limits (rw c.minimum.ensures at c.if-t-minimum.true))
    (short_offers a.r.now.goals.setting a.r.now.turn a.st a.k (table_in a.breaks.now) (active_in a.breaks.now) a.s a.r.now.turns p.0 p.1 _ c.active-n.ensures _ is _ a.r.now.goals.limits (rw c.minimum.ensures at c.if-t-minimum.true))

pub returns-then-r-t : goal.returns-then-r-t
returns-then-r-t c =
    let a = c.args in
    let p = c.requires in
    let is = c.lessened-b.ensures ∙ ap (lessened a.st.reduction) c.get_break.ensures in
    let long : a.r.now.goals.setting.width < line_at a.r.now.goals.setting a.r.now.turn c.lessened-b.result = rw (← c.reach-t.ensures.0) c.if-r-t.true in
    rw c.noted-seen.ensures (
      fit_drops a.r.now.goals.setting a.r.now.turn a.st a.k (table_in a.breaks.now) (active_in a.breaks.now) a.s a.r.now.turns p.0 p.1 _ c.active-n.ensures _ is long,
      goes_drops a.r.now.goals.setting a.r.now.turn a.st a.k (table_in a.breaks.now) (active_in a.breaks.now) a.s a.r.now.turns p.0 p.1 _ c.active-n.ensures _ is long,
    )

pub offered-better-requires : goal.offered-better-requires
offered-better-requires c =
    let a = c.args in
    let p = c.requires in
    let is = c.lessened-b.ensures ∙ ap (lessened a.st.reduction) c.get_break.ensures in
    (offers a.r.now.goals.setting a.r.now.turn a.st a.k (table_in a.breaks.now) (active_in a.breaks.now) a.s a.r.now.turns p.0 p.1 _ c.active-n.ensures _ is _ c.if-r-t.false, rw c.minimum.ensures at c.if-t-minimum.false)

pub keep-requires-2 : goal.keep-requires-2
keep-requires-2 c =
    let a = c.args in
    let p = c.requires in
    let is = c.lessened-b.ensures ∙ ap (lessened a.st.reduction) c.get_break.ensures in
    keep_room a.r.now.goals.setting a.r.now.turn a.st a.k (table_in a.breaks.now) (active_in a.breaks.now) a.s a.r.now.turns p.0 p.1 _ c.active-n.ensures _ is _ _ a.breaks.now refl c.noted-seen.ensures a.r.now.goals.limits c.if-r-t.false

pub returns : goal.returns
returns c =
    let a = c.args in
    let p = c.requires in
    let is = c.lessened-b.ensures ∙ ap (lessened a.st.reduction) c.get_break.ensures in
    let line = c.reach-t.ensures.0 in
    let kept = c.keep-2.ensures in
    let here = room a.r.now.goals.setting a.r.now.turn a.st a.k (table_in a.breaks.now) (active_in a.breaks.now) a.s a.r.now.turns p.0 p.1 _ c.active-n.ensures in
    let last = kept_room a.r.now.goals.setting a.r.now.turn a.st a.k (table_in a.breaks.now) (active_in a.breaks.now) a.s a.r.now.turns p.0 p.1 _ c.active-n.ensures _ _ c.noted-seen.ensures in
    keeps a.r.now.goals.setting a.r.now.turn a.st a.k (table_in a.breaks.now) (active_in a.breaks.now) a.s a.r.now.turns p.0 p.1 _ c.active-n.ensures _ is _ _ a.r.now.goals.limits line _ _ _ _ c.noted-seen.ensures (table_kept a.breaks.now _ _ _ _ is here _ _ _ kept.0) (active_kept a.breaks.now _ _ _ _ is here _ _ _ last kept.0) kept.1
    c.if-r-t.false
    c.offered-better.ensures
