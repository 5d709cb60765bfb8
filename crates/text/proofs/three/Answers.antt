-- `text::three` meets its contract: each of its tests is one that a character of three octets passes.
use mathlib.Core.Logic.{⊎_elim}
use native.Mathlib.Omega.{arith}
use borrow.Author.Tests.{leb-true}
use Rattle.text.proofs.Forms.{lead_is, three_here, three_none}
use Rattle.text.proofs.three.Goals as goal

pub returns-in_default : goal.returns-in_default
returns-in_default c = three_none _ _ c.requires.0 c.requires.1 c.requires.2 (λ k l t. omega (arith, t.second, t.third))

pub returns-in_default-2 : goal.returns-in_default-2
returns-in_default-2 c = three_none _ _ c.requires.0 c.requires.1 c.requires.2 (λ k l t. omega (arith, t.second, t.third))

pub returns-in_default-3 : goal.returns-in_default-3
returns-in_default-3 c = three_none _ _ c.requires.0 c.requires.1 c.requires.2 (λ k l t. omega (arith, t.second, t.third))

pub returns-in_default-4 : goal.returns-in_default-4
returns-in_default-4 c = three_none _ _ c.requires.0 c.requires.1 c.requires.2 (λ k l t. omega (arith, t.second, t.third))

pub returns-in_default-5 : goal.returns-in_default-5
returns-in_default-5 c = three_none _ _ c.requires.0 c.requires.1 c.requires.2 (λ k l t. omega (arith, t.second, t.third))

pub returns-then-b-ge160 : goal.returns-then-b-ge160
returns-then-b-ge160 c =
    three_none _ _ c.requires.0 c.requires.1 c.requires.2
    (λ k l t. t.is_scalar.no_surrogate (omega (arith, leb-true, t.number, t.second)) (omega (arith, leb-true, t.number, t.second)))

pub returns-then-code-lt2048 : goal.returns-then-code-lt2048
returns-then-code-lt2048 c = three_none _ _ c.requires.0 c.requires.1 c.requires.2 (λ k l t. omega (arith, c.from.ensures, c.from-2.ensures, c.from-3.ensures, t.number, t.long))

pub returns : goal.returns
returns c =
    three_here _ _ c.requires.0 c.requires.1 c.requires.2 _
    (record {
      second = omega arith;
      third = omega arith;
      number = rw (c.from.ensures, c.from-2.ensures, c.from-3.ensures);
      long = omega arith;
      is_scalar = record { most = omega arith; no_surrogate = λ l h. ⊎_elim (λ w. omega arith) (λ w. omega (arith, lead_is c.args.s.now c.args.at c.requires.0)) c.else-a.either };
    })
