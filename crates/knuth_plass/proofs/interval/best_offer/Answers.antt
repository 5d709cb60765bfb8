-- `knuth_plass::interval::best_offer` meets its contract. Invariant: the best so far and the best of those left are the best of all.
use mathlib.Core.Path.{sym, ◌∙◌}
use Prim.Native.Nat.{◌+◌}
use native.Mathlib.Omega.{arith}
use Rattle.records.specs.Word.{meaning}
use Rattle.knuth_plass.specs.Cited.Table.{table_in}
use Rattle.knuth_plass.proofs.Span.{offers_begin, offers_stop, offers_next, offers_end, columns_meant}
use Rattle.knuth_plass.proofs.interval.best_offer.Goals as goal

pub loop-k-init : goal.loop-k-init
loop-k-init c =
    let a = c.args in
    let p = c.requires in
    (λ h. absurd (omega arith), λ notes gap. offers_begin (a.x + gap) a.r.now.turn.number (table_in a.breaks.now) _ (omega arith) _)

pub returns-then-t-minimum : goal.returns-then-t-minimum
returns-then-t-minimum c =
    let a = c.args in
    let table = table_in a.breaks.now in
    let l = c.loop-k in
    let v = l.invariant in
    let t = c.loop-k-test.true in
    let e = columns_meant table l.k _ c.get_break-b.ensures in
    let h = c.if-t-minimum.true in
    record {
      is = λ notes gap. sym (offers_stop a.r.now.goals.setting table a.x l.k a.size t a.r.now.turn.number gap (meaning notes a.r.now.turn.word) _ (omega arith)) ∙ v.1 notes gap;
      fits = v.0;
    }

pub loop-k-preserved : goal.loop-k-preserved
loop-k-preserved c =
    let a = c.args in
    let p = c.requires in
    let table = table_in a.breaks.now in
    let l = c.loop-k in
    let v = l.invariant in
    let from = l.auto.k in
    let t = c.loop-k-test.true in
    let e = columns_meant table l.k _ c.get_break-b.ensures in
    let h = c.if-t-minimum.false in
    let o = c.offered-best.ensures in (
      o.fits a.size t v.0,
      λ notes gap. offers_next a.r.now.goals.setting a.r.now.turn table a.x l.k a.size t p.inner notes gap l.best c.offered-best.result _ _ c.get_break-b.ensures (omega arith) (omega arith) o ∙ v.1 notes gap,
    )

pub returns : goal.returns
returns c =
    let a = c.args in
    let l = c.loop-k in
    let v = l.invariant in
    record {
      is = λ notes gap. sym (offers_end (table_in a.breaks.now) l.k a.size c.loop-k-test.false a.r.now.goals.setting a.r.now.turn.number a.x gap (meaning notes a.r.now.turn.word) _) ∙ v.1 notes gap;
      fits = v.0;
    }
