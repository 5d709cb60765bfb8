-- `words::plain_among` meets its contract: none, all, or as many as the zeros say.
use native.Mathlib.Omega.{arith}
use Rattle.text.proofs.Eights.{clear_of, zeros_few}
use Rattle.words.proofs.Eights.{sum_fits, plain_count, all_plain}
use borrow.Author.Rules.{rules}
use Rattle.words.proofs.plain_among.Goals as goal

pub overflow_add-clear : goal.overflow_add-clear
overflow_add-clear c = record { fits = sum_fits c.args.s.now c.args.i (λ k. omega (arith, c.type_inv.s k)) c.eight-x.result c.eight-x.ensures c.if-x-ne0.false }

pub returns-then-clear-eq0 : goal.returns-then-clear-eq0
returns-then-clear-eq0 c = (omega arith, all_plain c.args.s.now c.args.i (λ k. omega (arith, c.type_inv.s k)) c.eight-x.result c.eight-x.ensures c.if-x-ne0.false c.if-clear-eq0.true (search rules))

pub returns : goal.returns
returns c = (zeros_few (clear_of 0x5F5F5F5F5F5F5F5F c.eight-x.result), plain_count c.args.s.now c.args.i (λ k. omega (arith, c.type_inv.s k)) c.eight-x.result c.eight-x.ensures c.if-x-ne0.false (search rules))
