-- `knuth_plass::telling::all_told` meets its contract. Invariant: as of the rounds; and what is kept of the two words, with what is to come, is of all that the rounds tell.
use mathlib.Core.Bool.{false}
use lib.ListN.{drop}
use Rattle.records.specs.Cited.Table.{words_in}
use Rattle.knuth_plass.specs.KnuthPlass.{Active, rounds_from}
use mathlib.Core.Path.{ap, ◌≡◌, refl, ◌∙◌}
use native.Mathlib.Omega.{arith}
use Rattle.knuth_plass.specs.Cited.Table.{records_part, table_in, active_in}
use Rattle.knuth_plass.proofs.Work.{part_room, part_home, worked_home, worked_then, worked_lent, worked_word, told_home, behind_home}
use Rattle.knuth_plass.proofs.Paragraph.{rounds_next, rounds_are}
use Rattle.knuth_plass.proofs.Asked.{so_first, so_turn}
use Rattle.knuth_plass.proofs.telling.all_told.Goals as goal

pub loop-i-init : goal.loop-i-init
loop-i-init c =
    let p = c.requires in
    let a = c.args in
    let b = c.begin-st.ensures in
    (worked_lent a.n a.work.now _ b.1 p.1, b.1, b.0.ready, λ notes. ap (λ (x : Active). rounds_from a.g.setting false 1 x (drop 1 (words_in notes a.n a.work.now))) (b.0.is notes), λ notes. so_first a.g.setting a.work.now a.n notes a.e _ p.0 p.3 (b.0.is notes))

pub told_round-told-requires : goal.told_round-told-requires
told_round-told-requires c =
    let p = c.requires in
    let a = c.args in
    let t = c.loop-i-test.true in
    let l = c.loop-i in
    let v = l.invariant in
    let w = c.get-word.ensures in
    (rw (part_room a.n l.work v.0) t, w.small, rw (w.is, worked_word a.n a.work.now l.work v.1 l.i t) (p.2 _ t), v.2)

pub loop-i-preserved : goal.loop-i-preserved
loop-i-preserved c =
    let a = c.args in
    let l = c.loop-i in
    let v = l.invariant in
    let t = c.loop-i-test.true in
    let next = worked_home a.n l.work v.0 c.told_round-told.new.breaks _ c.work-in-loop-i-1.given.0 refl in
    let home = part_home a.n l.work v.0 c.told_round-told.new.breaks _ c.work-in-loop-i-1.given.0 refl in
    let r = told_home a.n _ l.work _ _ v.1 next home l.i t _ c.get-word.ensures.is _ _ _ _ _ _ _ c.told_round-told.ensures in
    (worked_lent a.n l.work _ next v.0, worked_then a.n _ l.work v.1 _ next, r.round.ready, λ notes. rounds_next _ _ _ notes _ _ _ _ _ t (r.round.is notes) (behind_home a.n _ l.work _ _ v.1 next home l.i t _ c.get-word.ensures.is notes _ (c.sentence_behind-sentence.ensures notes)) ∙ v.3 notes, λ notes. so_turn a.g.setting _ a.n notes l.sentence l.i _ _ _ _ a.e _ _ _ _ t (r.round.is notes) (r.ending notes) (behind_home a.n _ l.work _ _ v.1 next home l.i t _ c.get-word.ensures.is notes _ (c.sentence_behind-sentence.ensures notes)) (v.4 notes) c.either-first.ensures c.either-second.ensures)

pub returns : goal.returns
returns c =
    let p = c.requires in
    let a = c.args in
    let l = c.loop-i in
    let v = l.invariant in
    let end : l.i ≡ a.n = omega (arith, l.auto.i-end p.0, c.loop-i-test.false) in
    let few = part_room a.n l.work v.0 in (
      record {
        rounds = rounds_are a.g.setting a.n l.i _ (table_in (records_part a.n l.work)) (active_in (records_part a.n l.work)) l.st l.sentence (l.auto.i-end p.0) c.loop-i-test.false (omega arith) v.2 v.3;
        first = λ notes h. (v.4 notes).first (omega arith);
        second = λ notes h. (v.4 notes).second (omega arith);
      },
      v.1,
    )
