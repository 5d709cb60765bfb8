-- `text::over_no_breaks` meets its contract. Invariant: the run's end and what is behind it are the same from the place reached.
use mathlib.Core.Path.{sym, ◌∙◌}
use Prim.Native.Nat.{◌+◌}
use native.Mathlib.Omega.{arith}
use Rattle.text.proofs.NoBreaks.{RunLeft, run_more, run_last}
use Rattle.text.proofs.over_no_breaks.Goals as goal

pub loop-i-smaller : goal.loop-i-smaller
loop-i-smaller c =
    let turn : RunLeft c.args.s.now c.args.at (c.loop-i.i + 2) = run_more _ _ _ c.loop-i.invariant (sym c.is_no_break.ensures ∙ c.loop-i-test.true) in
    let r = turn in omega (arith, r.within)

pub loop-i-preserved : goal.loop-i-preserved
loop-i-preserved c =
    let turn : RunLeft c.args.s.now c.args.at (c.loop-i.i + 2) = run_more _ _ _ c.loop-i.invariant (sym c.is_no_break.ensures ∙ c.loop-i-test.true) in
    turn

pub returns : goal.returns
returns c = run_last _ _ _ c.loop-i.invariant (sym c.is_no_break.ensures ∙ c.loop-i-test.false)
