-- `knuth_plass::listed::rounds` meets its contract. Invariant: the rounds still to do, from the active breaks as they stand, come to what all rounds come to from the start.
use mathlib.Core.Bool.{false}
use lib.ListN.{drop}
use Rattle.records.specs.Cited.Table.{words_in}
use Rattle.knuth_plass.specs.KnuthPlass.{Active, rounds_from}
use mathlib.Core.Path.{ap, refl, ◌∙◌}
use native.Mathlib.Omega.{arith}
use Rattle.knuth_plass.specs.Cited.Table.{records_part, table_in, active_in}
use Rattle.knuth_plass.proofs.Work.{part_room, part_home, worked_home, worked_then, worked_lent, worked_word, round_home, behind_home}
use Rattle.knuth_plass.proofs.Paragraph.{rounds_next, rounds_are}
use Rattle.knuth_plass.proofs.listed.rounds.Goals as goal

pub loop-i-init : goal.loop-i-init
loop-i-init c =
    let p = c.requires in
    let a = c.args in
    let b = c.begin-st.ensures in
    (worked_lent a.n a.work.now _ b.1 p.1, b.1, b.0.ready, λ notes. ap (λ (x : Active). rounds_from a.g.setting false 1 x (drop 1 (words_in notes a.n a.work.now))) (b.0.is notes))

pub round-st-requires : goal.round-st-requires
round-st-requires c =
    let p = c.requires in
    let a = c.args in
    let t = c.loop-i-test.true in
    let l = c.loop-i in
    let v = l.invariant in
    let w = c.get-word.ensures in
    (rw (part_room a.n l.work v.0) t, w.small, rw (w.is, worked_word a.n a.work.now l.work v.1 l.i t) (p.2 _ t), v.2)

pub loop-i-preserved : goal.loop-i-preserved
loop-i-preserved c =
    let a = c.args in
    let l = c.loop-i in
    let v = l.invariant in
    let t = c.loop-i-test.true in
    let next = worked_home a.n l.work v.0 c.round-st.new.breaks _ c.work-in-loop-i-1.given.0 refl in
    let home = part_home a.n l.work v.0 c.round-st.new.breaks _ c.work-in-loop-i-1.given.0 refl in
    let r = round_home a.n _ l.work _ _ v.1 next home l.i t _ c.get-word.ensures.is _ _ _ _ _ _ _ c.round-st.ensures in
    (worked_lent a.n l.work _ next v.0, worked_then a.n _ l.work v.1 _ next, r.ready, λ notes. rounds_next _ _ _ notes _ _ _ _ _ t (r.is notes) (behind_home a.n _ l.work _ _ v.1 next home l.i t _ c.get-word.ensures.is notes _ (c.sentence_behind-sentence.ensures notes)) ∙ v.3 notes)

pub returns : goal.returns
returns c =
    let p = c.requires in
    let a = c.args in
    let l = c.loop-i in
    let v = l.invariant in
    let few = part_room a.n l.work v.0 in
    (rounds_are a.g.setting a.n l.i _ (table_in (records_part a.n l.work)) (active_in (records_part a.n l.work)) l.st l.sentence (l.auto.i-end p.0) c.loop-i-test.false (omega arith) v.2 v.3, v.1)
