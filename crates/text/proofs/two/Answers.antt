-- `text::two` meets its contract: each of its tests is one that a character of two octets passes.
use mathlib.Core.Path.{refl}
use native.Mathlib.Omega.{arith}
use Rattle.text.proofs.Forms.{two_here, two_none}
use Rattle.text.proofs.two.Goals as goal

pub returns-in_default : goal.returns-in_default
returns-in_default c = two_none _ _ c.requires.0 c.requires.1 c.requires.2 (λ k l t. omega (arith, t.second))

pub returns-in_default-2 : goal.returns-in_default-2
returns-in_default-2 c = two_none _ _ c.requires.0 c.requires.1 c.requires.2 (λ k l t. omega (arith, t.second))

pub returns-in_default-3 : goal.returns-in_default-3
returns-in_default-3 c = two_none _ _ c.requires.0 c.requires.1 c.requires.2 (λ k l t. omega (arith, t.second))

pub returns : goal.returns
returns c = rw (c.from.ensures, c.from-2.ensures) (two_here _ _ c.requires.0 c.requires.1 c.requires.2 _ (record { second = omega arith; number = refl }))
