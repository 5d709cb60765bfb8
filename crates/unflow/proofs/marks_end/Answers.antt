-- `unflow::marks_end` meets its contract. Invariant: the marks from here on end where all of them do.
use mathlib.Core.Path.{◌≡◌, sym, ◌∙◌}
use native.Mathlib.Omega.{arith}
use native.Mathlib.Nat.{zero-add}
use lib.ListN.{length}
use borrow.Author.Tests.{eq-eqb, ne_eqb}
use Rattle.lists.proofs.RunsAt.{run_past, run_end, run_more}
use Rattle.unflow.specs.Flowed.{is_mark, quote_depth}
use Rattle.unflow.proofs.marks_end.Goals as goal

pub loop-i-init : goal.loop-i-init
unfolding quote_depth
loop-i-init c = (omega arith, zero-add _)

pub returns-then-line-i-ne62 : goal.returns-then-line-i-ne62
returns-then-line-i-ne62 c = (sym (run_end is_mark 0 _ _ c.loop-i-test.true (ne_eqb _ 62 c.if-line-i-ne62.true)) ∙ c.loop-i.invariant.1, c.loop-i.invariant.0)

pub loop-i-preserved : goal.loop-i-preserved
loop-i-preserved c = (omega arith, sym (run_more is_mark 0 _ _ c.loop-i-test.true (eq-eqb _ 62 c.if-line-i-ne62.false)) ∙ c.loop-i.invariant.1)

pub returns : goal.returns
returns c =
    let e : length c.args.line.now ≡ c.loop-i.i = omega (arith, c.loop-i.invariant.0) in
    rw e (sym (run_past is_mark 0 _ _ c.loop-i-test.false) ∙ c.loop-i.invariant.1, omega arith)
