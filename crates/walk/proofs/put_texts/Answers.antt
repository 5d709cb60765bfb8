-- `walk::put_texts` meets its contract. Invariant: the notes are those in which the work began, what is left of it from the first paragraph on,
-- and the storage, which keeps its lengths.
use Rattle.std.proofs.Common.{Ok}
use mathlib.Core.Path.{◌∙◌}
use native.Mathlib.Omega.{arith}
use Rattle.walk.proofs.Loop.{going_further, going_finished}
use Rattle.walk.proofs.Steps.{begins_placed}
use Rattle.walk.proofs.Courses.{stepped_over, stepped_stands, stepped_on}
use Rattle.walk.proofs.put_texts.Goals as goal

pub put_paragraph-requires : goal.put_paragraph-requires
put_paragraph-requires c =
    let t = c.loop-behind.text in
    (begins_placed _ _ _ _ _ t.notes.admitted t.ahead, omega (arith, t.notes.admitted.short, t.stands.bounded, t.stands.within))

pub put_lines-requires : goal.put_lines-requires
put_lines-requires c =
    let i = c.loop-behind.invariant in
    stepped_stands _ _ c.loop-behind.text _ _ _ (c.put_paragraph.ensures _) c.in-Ok.is (rw (i.0, i.2) c.requires)

pub returns-in-End : goal.returns-in-End
returns-in-End c =
    let i = c.loop-behind.invariant in
    λ most few.
    let g = stepped_on _ _ c.loop-behind.text _ _ _ (c.put_paragraph.ensures _) c.in-Ok.is (rw (i.0, i.2) c.requires) _ i.0 most few (i.1 most few) in
    going_finished _ _ _ g _ (Ok _) (rw i.0 at (c.in-End.ensures most))

pub loop-behind-smaller : goal.loop-behind-smaller
loop-behind-smaller c =
    let i = c.loop-behind.invariant in
    let s = stepped_over _ _ c.loop-behind.text _ _ _ (c.put_paragraph.ensures _) c.in-Ok.is (rw (i.0, i.2) c.requires) in
    let t = c.in-Text.ensures 0 in
    rw t.0 (omega (arith, s, t.2, t.1.stands.within))

pub loop-behind-preserved : goal.loop-behind-preserved
loop-behind-preserved c =
    let i = c.loop-behind.invariant in (
      (c.in-Text.ensures 0).0 ∙ i.0,
      λ most few.
          let g = stepped_on _ _ c.loop-behind.text _ _ _ (c.put_paragraph.ensures _) c.in-Ok.is (rw (i.0, i.2) c.requires) _ i.0 most few (i.1 most few) in
          going_further _ _ _ g (rw i.0 at (c.in-Text.ensures most).1),
      omega (arith, i.2),
    )
