-- `text::four` meets its contract: each of its tests is one that a character of four octets passes.
use native.Mathlib.Omega.{arith}
use Rattle.text.proofs.Forms.{four_here, four_none}
use Rattle.text.proofs.four.Goals as goal

pub returns-in_default : goal.returns-in_default
returns-in_default c = four_none _ _ c.requires.0 c.requires.1 (λ k l t. omega (arith, t.lead, t.second, t.third, t.fourth))

pub returns-in_default-2 : goal.returns-in_default-2
returns-in_default-2 c = four_none _ _ c.requires.0 c.requires.1 (λ k l t. omega (arith, t.lead, t.second, t.third, t.fourth))

pub returns-in_default-3 : goal.returns-in_default-3
returns-in_default-3 c = four_none _ _ c.requires.0 c.requires.1 (λ k l t. omega (arith, t.lead, t.second, t.third, t.fourth))

pub returns-in_default-4 : goal.returns-in_default-4
returns-in_default-4 c = four_none _ _ c.requires.0 c.requires.1 (λ k l t. omega (arith, t.lead, t.second, t.third, t.fourth))

pub returns-in_default-5 : goal.returns-in_default-5
returns-in_default-5 c = four_none _ _ c.requires.0 c.requires.1 (λ k l t. omega (arith, t.lead, t.second, t.third, t.fourth))

pub returns-in_default-6 : goal.returns-in_default-6
returns-in_default-6 c = four_none _ _ c.requires.0 c.requires.1 (λ k l t. omega (arith, t.lead, t.second, t.third, t.fourth))

pub returns-in_default-7 : goal.returns-in_default-7
returns-in_default-7 c = four_none _ _ c.requires.0 c.requires.1 (λ k l t. omega (arith, t.lead, t.second, t.third, t.fourth))

pub returns-in_default-8 : goal.returns-in_default-8
returns-in_default-8 c = four_none _ _ c.requires.0 c.requires.1 (λ k l t. omega (arith, t.lead, t.second, t.third, t.fourth))

pub returns-then-matches : goal.returns-then-matches
returns-then-matches c =
    four_here _ _ c.requires.0 c.requires.1 _
    (record { lead = omega arith; second = omega arith; third = omega arith; fourth = omega arith; number = rw (c.from.ensures, c.from-2.ensures, c.from-3.ensures, c.from-4.ensures); long = omega arith; most = omega arith })

pub returns-else-matches : goal.returns-else-matches
returns-else-matches c = four_none _ _ c.requires.0 c.requires.1 (λ k l t. omega (arith, t.number, t.long, t.most))
