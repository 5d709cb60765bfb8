-- `explain::pass_paragraph` meets its contract.
use mathlib.Core.Path.{refl}
use mathlib.Core.Bool.{◌||◌}
use native.Mathlib.Omega.{arith}
use Rattle.std.proofs.Common.{rules}
use Rattle.std.proofs.lemmas.Result.{err_from_is_err_and}
use Rattle.paragraphs.proofs.Tables.{room_holds, roomy}
use Rattle.paragraphs.proofs.Breaking.{limits_of, split_many, split_few, split_narrow}
use Rattle.explain.proofs.Seeking.{passed_told, passed_as}
use Rattle.explain.proofs.pass_paragraph.Goals as goal

pub split_words-requires : goal.split_words-requires
split_words-requires c = let p = c.requires in (p.order, p.within, p.short, p.tab_least, p.tab_most, room_holds _ _ _ c.room_for-most.ensures, p.begins)

pub returns-in_err-n : goal.returns-in_err-n
returns-in_err-n c =
    let p = err_from_is_err_and c.from_residual.result c.from_residual.ensures.1 in
    λ block. rw p.1 (rw (← c.room_for-most.ensures) (split_many (c.split_words.ensures block) c.in_err-n.was))

pub returns-in-Told : goal.returns-in-Told
returns-in-Told c =
    λ block.
    record {
      few = omega (arith, (split_few (c.split_words.ensures block) _ c.in_ok-n.was).1, c.room_for-most.ensures);
      next = refl;
      mail = refl;
      asked = rw c.in-Told.is (passed_told _ _);
    }

pub ask_lines-asked-requires : goal.ask_lines-asked-requires
ask_lines-asked-requires c =
    let p = c.requires in
    let s = c.split_words.ensures p.block in
    let w = c.in_ok-n.was in
    let n = split_few s _ w in
    let k = s.kept _ w in (
      rw (c.setting_of.ensures p.block) (limits_of _ _ _ _ p p.block),
      omega (arith, n.0, p.some),
      omega (arith, n.0, p.few, p.short),
      roomy c.args.o.quick c.args.p.mail c.split_words.auto.table c.room_for-most.ensures k.few (search rules),
      split_narrow s _ w p.short,
    )

pub returns-in-Behind : goal.returns-in-Behind
returns-in-Behind c =
    λ block.
    let s = c.split_words.ensures block in
    let w = c.in_ok-n.was in
    record {
      few = omega (arith, (split_few s _ w).1, c.room_for-most.ensures);
      next = refl;
      mail = refl;
      asked = passed_as (c.args.o.quick || c.args.p.mail) _ _ _ _ _ _ _ (c.ask_lines-asked.ensures _) c.in-Behind.is (c.setting_of.ensures block) (s.words _ w);
    }
