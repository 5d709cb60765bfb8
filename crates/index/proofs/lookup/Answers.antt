-- `index::lookup` meets its contract.
use Rattle.std.proofs.Common.{◌≡◌, ◌<◌, ◌≤◌, sym, ap, ◌∙◌, rules, arith, length, take}
use Rattle.std.specs.Option.{option_map, option_and_then}
use Rattle.std.proofs.lemmas.Grind.{common_steps}
use Rattle.std.proofs.lemmas.Iterator.{YieldsList-from_slice}
use Rattle.std.proofs.lemmas.Iterator.Search.{find_from_yields_List}
use borrow.Author.Tests.{tests}
use Rattle.index.specs.Lookup.{holds, part_in}
use Rattle.index.proofs.Laws.{lookup_past, lookup_within}
use Rattle.index.proofs.lookup.Goals as goal

pub returns-in_err-records : goal.returns-in_err-records
returns-in_err-records c =
    let past : length c.args.index.now < c.args.filled = grind (arith, common_steps, c.in_err-records.ensures.lookup) in
    c.from_residual.ensures ∙ sym (lookup_past c.args.index.now c.args.filled c.args.size c.args.line past)

pub returns-in_err-r : goal.returns-in_err-r
returns-in_err-r c =
    let index = c.args.index.now in
    let n = c.args.filled in
    let within : n ≤ length index = omega (arith, c.in_ok-records.ensures.lookup) in
    let first : c.iter.result.rest.now ≡ take n index = grind (arith, common_steps, c.in_ok-records.ensures.lookup) in
    let found = find_from_yields_List (holds c.args.line) _ _ c.find.result c.find.ensures.ran (YieldsList-from_slice (take n index) first) (λ x b q k. search (rules, tests)) in
    c.from_residual-in_err-r.ensures ∙ sym (lookup_within index n c.args.size c.args.line within ∙ ap (option_and_then (part_in c.args.size)) (sym found ∙ ap (option_map (λ r. r.now)) c.in_err-r.was))

pub returns : goal.returns
returns c =
    let index = c.args.index.now in
    let n = c.args.filled in
    let within : n ≤ length index = omega (arith, c.in_ok-records.ensures.lookup) in
    let first : c.iter.result.rest.now ≡ take n index = grind (arith, common_steps, c.in_ok-records.ensures.lookup) in
    let found = find_from_yields_List (holds c.args.line) _ _ c.find.result c.find.ensures.ran (YieldsList-from_slice (take n index) first) (λ x b q k. search (rules, tests)) in
    c.part_in.ensures ∙ sym (lookup_within index n c.args.size c.args.line within ∙ ap (option_and_then (part_in c.args.size)) (sym found ∙ ap (option_map (λ r. r.now)) c.in_ok-r.was))
