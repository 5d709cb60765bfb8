-- `panel::sign_of` meets its contract: its tests in the definition's order.
use native.Mathlib.Omega.{arith}
use borrow.Author.Tests.{ne_eqb}
use Rattle.panel.specs.Panel.{sign_of}
use Rattle.panel.proofs.sign_of.Goals as goal

pub returns-then-c-eq9 : goal.returns-then-c-eq9
unfolding sign_of
returns-then-c-eq9 c = rw c.if-c-eq9.true

pub returns-then-is_control : goal.returns-then-is_control
unfolding sign_of
returns-then-is_control c = rw (ne_eqb c.args.c 9 c.if-c-eq9.false, ← c.is_control.ensures, c.if-is_control.true)

pub returns-in-0 : goal.returns-in-0
unfolding sign_of
returns-in-0 c = rw (ne_eqb c.args.c 9 c.if-c-eq9.false, ← c.is_control.ensures, c.if-is_control.false, ← c.width.ensures, c.in-0.is)

pub returns-in-2 : goal.returns-in-2
unfolding sign_of
returns-in-2 c = rw (ne_eqb c.args.c 9 c.if-c-eq9.false, ← c.is_control.ensures, c.if-is_control.false, ← c.width.ensures, c.in-2.is)

pub returns-in_default : goal.returns-in_default
unfolding sign_of
returns-in_default c =
    rw (
      ne_eqb c.args.c 9 c.if-c-eq9.false,
      ← c.is_control.ensures,
      c.if-is_control.false,
      ← c.width.ensures,
      ne_eqb c.width.result 0 (λ e. omega arith),
      ne_eqb c.width.result 2 (λ e. omega arith),
    )
