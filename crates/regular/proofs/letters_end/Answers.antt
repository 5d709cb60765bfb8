-- `regular::letters_end` meets its contract. Invariant: up to i are regular bytes and letters of two, count of them letters.
use mathlib.Core.Path.{sym, ◌∙◌}
use mathlib.Core.Bool.{and-eq-true_iff}
use borrow.Author.Tests.{leb-true, ltb-true}
use Rattle.regular.proofs.Pairs.{letters_first, letters_byte, letters_pair}
use Rattle.regular.proofs.letters_end.Goals as goal

pub loop-i-init : goal.loop-i-init
loop-i-init c = letters_first _ _ _ c.requires.1 c.requires.0

pub loop-i-preserved-then-b : goal.loop-i-preserved-then-b
loop-i-preserved-then-b c =
    let both = (and-eq-true_iff _ _).0 c.if-b.true in
    letters_byte _ _ _ c.requires.1 _ _ c.loop-i.invariant c.loop-i-test.true (leb-true _ _ both.0) (ltb-true _ _ both.1)

pub loop-i-preserved : goal.loop-i-preserved
loop-i-preserved c = letters_pair _ _ _ c.requires.1 _ _ c.loop-i.invariant (sym c.is_letter.ensures ∙ c.if-is_letter.true)
