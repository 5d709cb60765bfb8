-- `marks::gap_from_word` meets its contract.
use Rattle.std.proofs.Common.{◌≡◌, rules}
use Rattle.std.proofs.lemmas.Iterator.{IsFirst-from_position, YieldsList-from_slice}
use Rattle.std.proofs.lemmas.Option.{MatchOption-at_some, MatchOption-at_none}
use borrow.Author.Tests.{tests}
use Rattle.marks.proofs.Gaps.{all_bare, first_marked}
use Rattle.marks.proofs.gap_from_word.Goals as goal

pub returns-in-Some : goal.returns-in-Some
returns-in-Some c =
    let first = IsFirst-from_position _ _ _ (λ v. v ≡ 0 → ⊥) (λ v. v ≡ 0) c.position.ensures.ran (YieldsList-from_slice c.args.table.now cc) (λ x q k. search (rules, tests)) (λ x q k. search (rules, tests)) in
    rw c.first.ensures (first_marked c.args.table.now _ (MatchOption-at_some _ _ _ c.in-Some.is first) (c.type_inv.table c.in-Some.i).fits)

pub returns-in-None : goal.returns-in-None
returns-in-None c =
    let first = IsFirst-from_position _ _ _ (λ v. v ≡ 0 → ⊥) (λ v. v ≡ 0) c.position.ensures.ran (YieldsList-from_slice c.args.table.now cc) (λ x q k. search (rules, tests)) (λ x q k. search (rules, tests)) in
    all_bare c.args.table.now (MatchOption-at_none _ _ c.in-None.is first)
