-- `knuth_plass::interval::skip` meets its contract. Invariant: what is skipped from here is what is skipped from the start.
use mathlib.Core.Path.{◌≡◌, sym, ◌∙◌}
use native.Mathlib.Omega.{arith}
use Prim.Native.Nat.{◌-◌}
use Rattle.knuth_plass.proofs.Skipping.{end_is, skips_last, skips_stop, skips_go, skips_none}
use Rattle.knuth_plass.proofs.interval.skip.Goals as goal

pub returns-then-low-p : goal.returns-then-low-p
returns-then-low-p c = let a = c.args in (sym (skips_none a.uniform a.low a.work.now a.n a.i a.p c.if-low-p.true), omega arith, c.requires.0)

pub returns-then-low-end : goal.returns-then-low-end
returns-then-low-end c =
    let a = c.args in
    let l = c.loop-k in
    let e = end_is a.uniform a.work.now l.k l.line _ _ c.get-w.ensures.is c.space_at.ensures in
    let more = c.loop-k-test.true in
    (sym (l.invariant.1 ∙ skips_stop a.uniform a.low a.work.now a.n l.k l.line more (rw (← e) c.if-low-end.true)), l.auto.k, omega arith)

pub loop-k-preserved : goal.loop-k-preserved
loop-k-preserved c =
    let a = c.args in
    let l = c.loop-k in
    let more = c.loop-k-test.true in
    let e = end_is a.uniform a.work.now l.k l.line _ _ c.get-w.ensures.is c.space_at.ensures in
    (c.if-low-end.false, rw e (l.invariant.1 ∙ skips_go a.uniform a.low a.work.now a.n l.k l.line more (rw (← e) c.if-low-end.false)))

pub returns : goal.returns
returns c =
    let a = c.args in
    let l = c.loop-k in
    let v = l.invariant in
    let same : l.k ≡ a.n - 1 = omega (arith, l.auto.k-end (omega arith), c.loop-k-test.false) in
    let some = c.requires.0 in
    (rw same at (sym (v.1 ∙ skips_last a.uniform a.low a.work.now a.n l.k l.line c.loop-k-test.false)), omega arith, omega arith)
