-- `text::printable_among` meets its contract: none, or as many as the zeros say.
use native.Mathlib.Omega.{arith}
use Rattle.text.proofs.Eights.{clear_of, zeros_few}
use Rattle.text.proofs.Printable.{printable_fits, printable_count}
use Rattle.text.proofs.printable_among.Goals as goal

pub overflow_add-clear : goal.overflow_add-clear
overflow_add-clear c = record { fits = printable_fits c.args.s.now c.args.i (λ k. omega (arith, c.type_inv.s k)) c.eight-x.result c.eight-x.ensures c.if-x-ne0.false }

pub returns : goal.returns
returns c = (zeros_few (clear_of 0x6060606060606060 c.eight-x.result), printable_count c.args.s.now c.args.i (λ k. omega (arith, c.type_inv.s k)) c.eight-x.result c.eight-x.ensures c.if-x-ne0.false)
