-- `marks::gap` meets its contract.
use Rattle.std.proofs.Common.{◌≡◌, ◌<◌, ◌≤◌, sym, ◌∙◌, ◌-◌, ◌/◌, ◌%◌, ℕ, length, get_or, arith, ap, length-take}
use Rattle.std.proofs.lemmas.Grind.{common_steps}
use Rattle.std.proofs.lemmas.Option.{gets}
use Rattle.marks.proofs.Gaps.{further, further_some, gap_past, gap_in_word, gap_behind_word, gap_few}
use Rattle.marks.proofs.gap.Goals as goal

pub returns-in_default : goal.returns-in_default
returns-in_default c =
    let past : length c.args.table.now ≤ c.args.from / 32 = grind (arith, common_steps, gets) in
    sym (gap_past c.args.table.now c.args.from past)

pub returns-then-rest-ne0 : goal.returns-then-rest-ne0
returns-then-rest-ne0 c =
    let less : c.args.from / 32 < length c.args.table.now = grind (arith, common_steps, gets) in
    let word : get_or c.args.table.now (c.args.from / 32) 0 ≡ c.in-Some.word = grind (arith, common_steps, gets) in
    c.first.ensures ∙ sym (gap_in_word c.args.table.now c.args.from less _ word c.if-rest-ne0.true (rw word at (c.type_inv.table (c.args.from / 32)).fits))

pub overflow_add-result : goal.overflow_add-result
overflow_add-result c = record { fits = omega (arith, gap_few, length-take {A = ℕ}) }

pub returns-then-more-eq0 : goal.returns-then-more-eq0
returns-then-more-eq0 c =
    let less : c.args.from / 32 < length c.args.table.now = grind (arith, common_steps, gets) in
    let word : get_or c.args.table.now (c.args.from / 32) 0 ≡ c.in-Some.word = grind (arith, common_steps, gets) in
    sym (gap_behind_word c.args.table.now c.args.from less _ word c.if-rest-ne0.false _ c.gap_from_word-more.ensures ∙ ap (further _) c.if-more-eq0.true)

pub returns-else-more-eq0 : goal.returns-else-more-eq0
returns-else-more-eq0 c =
    let more = c.gap_from_word-more in
    let less : c.args.from / 32 < length c.args.table.now = grind (arith, common_steps, gets) in
    let word : get_or c.args.table.now (c.args.from / 32) 0 ≡ c.in-Some.word = grind (arith, common_steps, gets) in
    sym (gap_behind_word c.args.table.now c.args.from less _ word c.if-rest-ne0.false _ more.ensures ∙ further_some (32 - c.args.from % 32) more.result c.if-more-eq0.false)
