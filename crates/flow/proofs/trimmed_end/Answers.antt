-- `flow::trimmed_end` meets its contract. Invariant: what is trimmed up to the end so far is what is trimmed of all.
use mathlib.Core.Path.{sym, ◌∙◌}
use Prim.Native.Nat.{◌-◌}
use native.Mathlib.Omega.{arith}
use Rattle.flow.proofs.Plain.{end_space, end_ink, end_none}
use Rattle.flow.proofs.trimmed_end.Goals as goal

pub returns-then-notes-last-ne32 : goal.returns-then-notes-last-ne32
returns-then-notes-last-ne32 c = let i = c.loop-end.invariant in (end_ink c.args.notes.now c.args.from (c.loop-end.end - 1) c.loop-end.end (omega (arith, c.loop-end-test.true)) (omega (arith, c.loop-end-test.true)) (omega (arith, i.2, c.requires.1)) c.if-notes-last-ne32.true ∙ i.0, i.1, i.2)

pub loop-end-preserved : goal.loop-end-preserved
loop-end-preserved c = let i = c.loop-end.invariant in (sym (end_space c.args.notes.now c.args.from (c.loop-end.end - 1) c.loop-end.end (omega (arith, c.loop-end-test.true)) (omega (arith, c.loop-end-test.true)) (omega (arith, i.2, c.requires.1)) c.if-notes-last-ne32.false) ∙ i.0, omega (arith, c.loop-end-test.true), omega (arith, i.2))

pub returns : goal.returns
returns c = let i = c.loop-end.invariant in (end_none _ _ _ i.1 (omega (arith, c.loop-end-test.false)) ∙ i.0, i.1, i.2)
