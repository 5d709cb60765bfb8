-- `lines::begins_otherwise` meets its contract: it says so only where the tests hold.
use mathlib.Core.Bool.{and-eq-true_iff}
use native.Mathlib.Omega.{arith}
use borrow.Author.Tests.{not-true, eqb-false}
use Rattle.lines.proofs.Spaces.{search_nowhere}
use Rattle.lines.proofs.begins_otherwise.Goals as goal

pub returns : goal.returns
returns c = λ e.
    let b = (and-eq-true_iff _ _).0 e in
    let i = c.is_plain.ensures c.if-not-is_plain.false in
    search_nowhere _ _ (omega (arith, c.if-p-eq0.false)) (eqb-false _ _ (not-true _ b.0)) _ c.requires i.0 i.1 i.2 (eqb-false _ _ (not-true _ b.1))
