-- `regular::put_row` meets its contract.
use mathlib.Core.Path.{◌∙◌}
use mathlib.Core.List.{[]}
use native.Mathlib.Omega.{arith}
use Rattle.options.specs.Opts.{meant}
use Rattle.regular.proofs.Going.{gaps_same, row_went}
use Rattle.regular.proofs.put_row.Goals as goal

pub next_row-requires : goal.next_row-requires
unfolding meant
next_row-requires c =
    let p = c.requires in
    let r = c.in-Some.ensures [] in
    (r.some, omega (arith, r.within, r.most, p.1), r.inked, r.counts, λ u. r.even (gaps_same _ _ _ p.6 c.if-not-mail.true ∙ u), p.8, p.2, omega (arith, p.9), p.10, p.11, p.12)

pub returns : goal.returns
returns c =
    let p = c.requires in
    row_went _ _ _ _ _ _ _ _ _ _ _ c.if-not-mail.true _ c.in-Some.ensures (gaps_same _ _ _ p.6 c.if-not-mail.true) _ _ c.next_row.ensures
