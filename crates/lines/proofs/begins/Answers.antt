-- `lines::begins` meets its contract. Invariant: what is left of p begins what is left of s if and only if p begins s.
use mathlib.Core.Path.{sym, ◌∙◌}
use native.Mathlib.Omega.{arith}
use borrow.Author.Rules.{rules}
use Rattle.lists.proofs.RunsAt.{begins_done, begins_other, begins_more}
use Rattle.lines.proofs.Same.{begins_empty, begins_longer, begins_unlike}
use Rattle.lines.proofs.begins.Goals as goal

pub returns-then-p-eq0 : goal.returns-then-p-eq0
returns-then-p-eq0 c = sym (begins_empty _ _ c.if-p-eq0.true)

pub returns-then-s-p : goal.returns-then-s-p
returns-then-s-p c = sym (begins_longer _ _ c.if-s-p.true)

pub returns-then-s-last : goal.returns-then-s-last
returns-then-s-last c = sym (begins_unlike _ _ _ (search rules) c.if-s-last.true)

pub returns-then-s-i : goal.returns-then-s-i
returns-then-s-i c = sym (begins_other c.args.p.now c.args.s.now c.loop-i.i (omega arith) (omega arith) c.if-s-i.true) ∙ c.loop-i.invariant

pub loop-i-preserved : goal.loop-i-preserved
loop-i-preserved c = sym (begins_more c.args.p.now c.args.s.now c.loop-i.i (omega arith) (omega arith) c.if-s-i.false) ∙ c.loop-i.invariant

pub returns : goal.returns
returns c = sym (begins_done c.args.p.now c.args.s.now c.loop-i.i (omega arith)) ∙ c.loop-i.invariant
