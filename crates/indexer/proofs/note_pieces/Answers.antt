-- `indexer::note_pieces` meets its contract. Invariant: what is left of the digest from the cursor on, and what is spelled up to it.
use mathlib.Core.Path.{◌≡◌, ap, ◌∙◌}
use Prim.Native.Nat.{ℕ, ◌-◌, ◌≤◌}
use native.Mathlib.Omega.{arith}
use lib.ListN.{length, drop, length-replicate}
use lib.Seq.{take_at, length-take-le}
use borrow.Rule.Slice.PartMut.{put_mid, same_len_mid}
use Rattle.walk.proofs.Loop.{going_first, going_length, going_on, stands_first}
use Rattle.indexer.proofs.Marking.{marking_first, marking_spells, marking_on, noted_all, noted_stopped, part_room, front_cleared, front_kept, front_home}
use Rattle.indexer.proofs.note_pieces.Goals as goal

pub loop-c-init : goal.loop-c-init
loop-c-init c =
    let a = c.args in
    let clear = front_cleared a.marks a.work.now c.fill.new.self (omega (arith, c.requires.order, c.requires.within)) (c.fill.ensures.after (λ y e. e)) in
    (going_first _ _ _ _ _ (stands_first _), marking_first _ _ _ _ _ (take_at c.fill.new.self (drop a.marks a.work.now) a.marks (ap length clear.0 ∙ length-replicate {A = ℕ} a.marks 0) ∙ clear.0), clear.1)

pub returns-in_default : goal.returns-in_default
returns-in_default c =
    let a = c.args in
    let l = c.loop-c in
    let is = part_room a.notes.options.quick a.marks a.end l.work c.requires.order (omega (arith, c.requires.within, l.invariant.2)) in
    noted_stopped _ _ _ _ l.invariant.0 (rw is at c.in_default.ensures)

pub spell-line-requires : goal.spell-line-requires
spell-line-requires c =
    let a = c.args in
    let l = c.loop-c in
    let is = part_room a.notes.options.quick a.marks a.end l.work c.requires.order (omega (arith, c.requires.within, l.invariant.2)) in
    rw (front_kept a.marks (a.end - a.marks) l.work c.put_piece.new.work (omega (arith, c.requires.order, c.requires.within, l.invariant.2)))
    (marking_spells _ _ _ _ l.invariant.1 (rw is at c.in-Ok.ensures) c.requires.enough c.requires.few (c.put_piece.auto.out ∙ going_length _ _ _ l.invariant.0))

pub loop-c-preserved : goal.loop-c-preserved
loop-c-preserved c =
    let a = c.args in
    let l = c.loop-c in
    let fits : a.marks ≤ length l.work = omega (arith, c.requires.order, c.requires.within, l.invariant.2) in
    let is = part_room a.notes.options.quick a.marks a.end l.work c.requires.order (omega (arith, c.requires.within, l.invariant.2)) in
    let part = put_mid a.marks (a.end - a.marks) l.work c.put_piece.new.work in
    let home : length part ≡ length l.work = same_len_mid a.marks (a.end - a.marks) l.work c.put_piece.new.work c.put_piece.auto.work in
    let kept = front_kept a.marks (a.end - a.marks) l.work c.put_piece.new.work fits in
    let back = front_home a.marks part c.spell-line.new.gaps (c.spell-line.auto.gaps ∙ length-take-le a.marks part (omega (arith, home, fits))) (omega (arith, home, fits)) in (
      going_on _ _ _ l.invariant.0 (rw is at c.in-Ok.ensures),
      rw back.0 (marking_on _ _ _ _ l.invariant.1 (rw is at c.in-Ok.ensures) c.requires.enough c.requires.few (c.put_piece.auto.out ∙ going_length _ _ _ l.invariant.0) (rw kept at c.spell-line.ensures)),
      back.1 ∙ home ∙ l.invariant.2,
    )

pub returns : goal.returns
returns c = let i = c.loop-c.invariant in noted_all _ _ _ _ i.0 _ c.requires.few i.1 c.loop-c-test.false
