-- `quick::quick_ending` meets its contract. Invariant: the line asked for is so many lines behind the one that is being filled.
use mathlib.Core.Path.{◌∙◌}
use native.Mathlib.Omega.{arith}
use Rattle.quick.proofs.Lines.{ending_first, ending_here, ending_less, ending_on, ending_last}
use Rattle.quick.proofs.quick_ending.Goals.{then-g-reached+else-left-eq0, else-g-reached}
use Rattle.quick.proofs.quick_ending.Goals as goal

pub loop-i-init : goal.loop-i-init
loop-i-init c = (omega arith, λ notes. ending_first _ notes _ _ _ _ c.get-head.ensures.is c.requires.0)

pub returns-then-left-eq0 : goal.returns-then-left-eq0
returns-then-left-eq0 c =
    let r = c.reach-reached in
    let l = c.loop-i in
    λ notes. c.full.ensures ∙ ending_here _ notes _ _ l.column l.punct l.i l.left _ r.result c.get-w.ensures.is c.loop-i-test.true r.ensures.0 c.if-g-reached.true c.if-left-eq0.true ∙ l.invariant.1 notes

pub loop-i-preserved : goal.loop-i-preserved
loop-i-preserved c =
    let r = c.reach-reached in
    let l = c.loop-i in
    let e = c.get-w.ensures.is in
    elim c.if-g-reached.branch [
      | then-g-reached+else-left-eq0 w ↦ (omega arith, λ notes. rw (w.column-is, w.left-is) (ending_less _ notes _ _ l.column l.punct l.i l.left _ r.result e c.loop-i-test.true r.ensures.0 w.if-g-reached.true w.if-left-eq0.false ∙ l.invariant.1 notes))
      | else-g-reached w ↦ (omega arith, λ notes. rw (w.column-is, w.left-is) (ending_on _ notes _ _ l.column l.punct l.i l.left _ r.result e c.loop-i-test.true r.ensures.0 w.if-g-reached.false ∙ l.invariant.1 notes))
    ]

pub returns : goal.returns
returns c =
    let l = c.loop-i in
    λ notes. ending_last c.args.g notes c.args.table.now c.args.n l.column l.punct l.i l.left c.loop-i-test.false ∙ l.invariant.1 notes
