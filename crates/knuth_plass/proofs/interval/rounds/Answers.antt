-- `knuth_plass::interval::rounds` meets its contract. Invariant: the rounds still to do come to what all rounds come to from the start.
use mathlib.Core.Path.{refl, ap, ◌∙◌}
use native.Mathlib.Omega.{arith}
use lib.Ieee.{of_bits}
use Rattle.knuth_plass.specs.Cited.Table.{records_part, table_in}
use Rattle.knuth_plass.proofs.Table.{table_record}
use Rattle.knuth_plass.proofs.Work.{part_room, part_sized, part_home, worked_home, worked_then, worked_lent, worked_word}
use Rattle.knuth_plass.proofs.Intervals.{between, along_start, along_next, line_room_law, gap_same, intervals_are}
use Rattle.knuth_plass.proofs.Skipping.{mark_here, mark_behind, along_second, sentence_same, behind_skipped}
use Rattle.knuth_plass.proofs.interval.rounds.Goals as goal

pub loop-i-init : goal.loop-i-init
unfolding of_bits
loop-i-init c =
    let a = c.args in
    let p = c.requires in
    let worked = worked_home a.n a.work.now p.1 c.store_break.new.breaks _ c.work-1.given.0 refl in
    let home = part_home a.n a.work.now p.1 c.store_break.new.breaks _ c.work-1.given.0 refl in
    let some = p.0 in
    let room = part_room a.n a.work.now p.1 in
    let stored = ap table_in (home ∙ c.store_break.ensures) ∙ table_record (records_part a.n a.work.now) 0 _ (rw room (omega arith)) in (
      omega arith,
      p.0,
      worked_lent a.n a.work.now _ worked p.1,
      worked,
      along_second a.g.setting a.n _ _ _
          (along_start a.g.setting a.n _ a.g.limits p.3 p.0 0 refl (table_in (records_part a.n a.work.now)) (part_sized a.n a.work.now p.1) (rw room (omega arith)) _ _ c.get-w.ensures.is stored),
    )

pub least_end-low-requires : goal.least_end-low-requires
least_end-low-requires c =
    let l = c.loop-i in
    let v = l.invariant in
    let some = v.4.some in
    let few = v.4.few in
    let t = c.loop-i-test.true in
    rw (part_room c.args.n l.work v.2) (omega arith)

pub round-s-requires : goal.round-s-requires
round-s-requires c =
    let a = c.args in
    let p = c.requires in
    let l = c.loop-i in
    let v = l.invariant in
    let k = c.skip-over.result.word in
    let behind = behind_skipped a.g.setting a.n _ a.g.limits l.s.head l.s.size (table_in (records_part a.n l.work)) l.work v.3 l.i l.s.line v.0 c.loop-i-test.true v.4 _ c.least_end-low.ensures.0 _ c.skip-over.ensures.0 in
    let t = behind.to in
    let got = c.get-word.ensures in
    let word = got.is ∙ worked_word a.n _ l.work v.3 k t in
    let gap = c.gap_behind-gap.ensures ∙ gap_same a.n _ l.work v.3 k in (
      record {
        small = got.small;
        narrow = rw word (p.2 _ t);
        tabless = rw word (p.3.line.tabless k t);
      },
      rw (part_room a.n l.work v.2) t,
      rw word (between a.g.setting a.n _ k _ _ (table_in (records_part a.n l.work)) behind.along t),
      rw (word, gap) (line_room_law a.g.setting.first a.n k _ _ p.3.line t behind.along.short),
    )

pub loop-i-preserved : goal.loop-i-preserved
loop-i-preserved c =
    let a = c.args in
    let l = c.loop-i in
    let v = l.invariant in
    let k = c.skip-over.result.word in
    let some = v.0 in
    let behind = behind_skipped a.g.setting a.n _ a.g.limits l.s.head l.s.size (table_in (records_part a.n l.work)) l.work v.3 l.i l.s.line some c.loop-i-test.true v.4 _ c.least_end-low.ensures.0 _ c.skip-over.ensures.0 in
    let from = behind.from in
    let t = behind.to in
    let next = worked_home a.n l.work v.2 c.round-s.new.breaks _ c.work-in-loop-i-1.given.0 refl in
    let home = part_home a.n l.work v.2 c.round-s.new.breaks _ c.work-in-loop-i-1.given.0 refl in
    let word = c.get-word.ensures.is ∙ worked_word a.n _ l.work v.3 k t in
    let gap = c.gap_behind-gap.ensures ∙ gap_same a.n _ l.work v.3 k in
    let mark = c.sentence_at-sentence.ensures ∙ sentence_same a.n _ l.work v.3 k t in (
      omega arith,
      omega arith,
      worked_lent a.n l.work _ next v.2,
      worked_then a.n _ l.work v.3 _ next,
      along_next a.g.setting a.n _ k _ _ (table_in (records_part a.n l.work)) behind.along t _ _ _
          (rw (home, mark_here a.n _ k t, ← mark, ← word, ← gap) c.round-s.ensures)
          (λ notes. mark_behind a.n _ k notes (omega arith)),
    )

pub returns : goal.returns
returns c =
    let a = c.args in
    let p = c.requires in
    let l = c.loop-i in
    let v = l.invariant in
    let room = part_room a.n l.work v.2 in
    (intervals_are a.g.setting a.n _ a.g.limits p.3 p.0 l.i _ l.s (table_in (records_part a.n l.work)) v.1 c.loop-i-test.false (omega arith) v.4, v.3)
