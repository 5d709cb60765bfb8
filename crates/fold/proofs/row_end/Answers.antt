-- `fold::row_end` meets its contract.
use borrow.Author.Rules.{rules}
use mathlib.Core.Path.{refl, sym, ◌∙◌}
use native.Mathlib.Omega.{arith}
use Rattle.fold.proofs.Stays.{row_begins, row_past}
use Rattle.fold.proofs.row_end.Goals as goal

pub returns-then-at-line : goal.returns-then-at-line
returns-then-at-line c = (sym (row_past _ _ _ _ (omega arith)), search rules, λ h. absurd (omega (arith, h)))

pub returns : goal.returns
returns c =
    let b = c.behind-first.ensures in
    let s = c.stay_end.ensures in
    (s.0 ∙ sym (row_begins _ _ _ b refl), s.2, λ h. omega (arith, b.on, s.1))
