-- `flow::send_text` meets its contract.
use Rattle.std.proofs.lemmas.Result.{err_from_is_err_and}
use mathlib.Core.Path.{refl, ap, ◌∙◌}
use mathlib.Core.List.{[]}
use mathlib.Core.Bool.{true}
use native.Mathlib.Omega.{arith}
use Rattle.records.proofs.Marks.{words_same}
use Rattle.quick.specs.Quick.{quick_breaks}
use Rattle.paragraphs.proofs.Tables.{room_holds}
use Rattle.paragraphs.proofs.Breaking.{split_many, split_few}
use Rattle.flow.proofs.Course.{fair_of, text_sent}
use Rattle.flow.proofs.send_text.Goals as goal

pub split_words-requires : goal.split_words-requires
split_words-requires c =
    let p = c.requires in (p.0.order, p.0.within, p.0.short, p.0.tab_least, p.0.tab_most, room_holds true _ _ c.room_for-most.ensures, p.0.begins)

pub returns-in_err-n : goal.returns-in_err-n
returns-in_err-n c =
    let p = err_from_is_err_and c.from_residual.result c.from_residual.ensures.1 in
    λ block. rw p.1 (omega (arith, split_many (c.split_words.ensures block) c.in_err-n.was, c.room_for-most.ensures), refl)

pub quick_breaks-requires : goal.quick_breaks-requires
quick_breaks-requires c =
    let p = c.requires in
    let s = c.split_words.ensures p.0.block in
    let w = c.in_ok-n.was in
    let n = split_few s _ w in
    let k = s.kept _ w in
    (omega (arith, n.0, p.0.some), omega (arith, k.few, k.held), rw (c.setting_of.ensures p.0.block) (fair_of p.0 p.0.block))

pub emit-t-requires : goal.emit-t-requires
emit-t-requires c =
    let p = c.requires in
    let s = c.split_words.ensures p.0.block in
    let w = c.in_ok-n.was in
    let n = split_few s _ w in
    let k = s.kept _ w in
    let b = c.quick_breaks.ensures [] in (
      record {
        some = omega (arith, n.0, p.0.some);
        few = omega (arith, n.0, p.0.few, p.0.short);
        words = λ i h. rw (b.words i) (k.within i h);
        held = omega (arith, k.few, k.held, b.sized);
        first = p.0.first;
        indent = p.0.indent;
        small = omega (arith, p.0.short);
      },
      p.1,
    )

pub returns : goal.returns
returns c =
    λ block.
    let p = c.requires in
    let s = c.split_words.ensures block in
    let w = c.in_ok-n.was in
    let q = c.quick_breaks.ensures _ in
    text_sent _ c.emit-t.result (omega (arith, (split_few s _ w).1, c.room_for-most.ensures)) refl refl (words_same _ _ _ _ (λ j h. q.words j) ∙ s.words _ w) (q.says ∙ ap (quick_breaks _) (s.words _ w)) (c.setting_of.ensures block) c.emit-t.ensures
