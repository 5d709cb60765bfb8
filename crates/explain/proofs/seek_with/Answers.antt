-- `explain::seek_with` meets its contract. Invariant: the search has gone on from where it began.
use native.Mathlib.Omega.{arith}
use mathlib.Core.Path.{◌∙◌}
use Rattle.explain.proofs.Seeking.{seeking_on, seeking_last}
use Rattle.explain.proofs.seek_with.Goals as goal

pub returns-in_default : goal.returns-in_default
returns-in_default c = λ most few. (c.loop-s.invariant.0 most few, rw c.loop-s.invariant.1 at c.in_default.ensures)

pub loop-s-preserved : goal.loop-s-preserved
loop-s-preserved c =
    let i = c.loop-s.invariant in (
      λ most few. seeking_on _ _ _ (i.0 most few) (rw i.1 few) c.in-Ok.ensures,
      c.pass_piece.auto.work ∙ i.1,
    )

pub returns : goal.returns
returns c = λ most few. seeking_last _ _ _ (c.loop-s.invariant.0 most few) (omega (arith, c.loop-s-test.false))
