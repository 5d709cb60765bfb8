-- `paragraphs::put_by_table` meets its contract.
use Rattle.std.proofs.Common.{rules}
use mathlib.Core.Path.{refl, ◌∙◌}
use native.Mathlib.Omega.{arith}
use borrow.Author.Tests.{le-leb, lt-leb}
use Rattle.std.proofs.lemmas.Result.{err_from_is_err_and}
use Rattle.records.proofs.Marks.{words_same}
use Rattle.paragraphs.proofs.Tables.{room_holds, roomy}
use Rattle.paragraphs.proofs.Breaking.{limits_of, split_many, split_few, split_narrow, emitted_is, wrote_as, most_as}
use Rattle.paragraphs.proofs.put_by_table.Goals as goal

pub split_words-requires : goal.split_words-requires
split_words-requires c = let p = c.requires in (p.0.order, p.0.within, p.0.short, p.0.tab_least, p.0.tab_most, room_holds _ _ _ c.room_for-most.ensures, p.0.begins)

pub returns-in_err-n : goal.returns-in_err-n
returns-in_err-n c =
    let p = err_from_is_err_and c.from_residual.result c.from_residual.ensures.1 in
    λ block. rw p.1 (rw (← c.room_for-most.ensures) (lt-leb _ _ (split_many (c.split_words.ensures block) c.in_err-n.was)), refl)

pub mark_breaks-requires : goal.mark_breaks-requires
mark_breaks-requires c =
    let p = c.requires in
    let s = c.split_words.ensures p.0.block in
    let w = c.in_ok-n.was in
    let n = split_few s _ w in
    let k = s.kept _ w in (
      rw (c.setting_of.ensures p.0.block) (limits_of _ _ _ _ p.0 p.0.block),
      omega (arith, n.0, p.0.some),
      omega (arith, n.0, p.0.few, p.0.short),
      roomy c.args.o.quick c.args.p.mail c.split_words.auto.table c.room_for-most.ensures k.few (search rules),
      split_narrow s _ w p.0.short,
    )

pub emit-requires : goal.emit-requires
emit-requires c =
    let p = c.requires in
    let s = c.split_words.ensures p.0.block in
    let w = c.in_ok-n.was in
    let n = split_few s _ w in
    let k = s.kept _ w in
    let b = c.mark_breaks.ensures in
    let l = c.layout_of.ensures in (
      record {
        some = omega (arith, n.0, p.0.some);
        few = omega (arith, n.0, p.0.few, p.0.short);
        words = λ i h. rw (b.words i h) (k.within i h);
        held = omega (arith, k.few, k.held, b.sized);
        first = rw l.1 p.0.first;
        indent = rw l.2 p.0.indent;
        small = omega (arith, p.0.short);
      },
      p.1,
    )

pub returns : goal.returns
returns c =
    λ block.
    let s = c.split_words.ensures block in
    let w = c.in_ok-n.was in
    let b = c.mark_breaks.ensures in
    let l = c.layout_of.ensures in
    let e = words_same _ _ _ _ b.words ∙ s.words _ w in (
      rw (← c.room_for-most.ensures) (le-leb _ _ (split_few s _ w).1),
      record {
        next = refl;
        mail = refl;
        wrote = wrote_as (emitted_is _ _ _ _ _ l.0 l.1 l.2 (s.words _ w) b (search rules) (c.setting_of.ensures block)) c.emit.ensures.0;
        bounded = most_as _ _ _ c.layout_of.result _ l.1 l.2 e c.emit.ensures.1;
      },
    )
