-- `lines::are_ascii` meets its contract. Invariant: if all tests held, such bytes stand up to the place reached.
use mathlib.Core.Bool.{and-eq-true_iff}
use native.Mathlib.Omega.{arith}
use borrow.Author.Tests.{ltb-true, eqb-false, not-true}
use Rattle.lines.proofs.Asciis.{run_byte, run_same}
use Rattle.lines.proofs.are_ascii.Goals as goal

pub loop-k-preserved : goal.loop-k-preserved
loop-k-preserved c = λ e.
    let b = (and-eq-true_iff c.loop-k.all _).0 e in
    let a = (and-eq-true_iff _ _).0 b.1 in
    run_same _ (omega arith) (run_byte (c.loop-k.invariant b.0) (omega (arith, c.requires.0, c.requires.1)) (ltb-true _ _ a.0) (eqb-false _ _ (not-true _ a.1)))
