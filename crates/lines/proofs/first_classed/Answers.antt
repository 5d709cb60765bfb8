-- `lines::first_classed` meets its contract: an empty line is blank; else its body's end is that from the end of the ASCII, and its text is sound where that is known
-- or where the two are one.
use mathlib.Core.Path.{sym}
use native.Mathlib.Omega.{arith}
use lib.ListN.{length-take}
use lib.Seq.{length-take-le}
use Rattle.lines.proofs.Lines.{lengths}
use Rattle.lines.proofs.Sound.{text_sound}
use Rattle.lines.proofs.Classes.{classed_is, classed_empty}
use Rattle.lines.proofs.first_classed.Goals as goal

pub returns-then-is_empty : goal.returns-then-is_empty
returns-then-is_empty c = let h = c.is_empty.ensures c.if-is_empty.true in classed_empty _ _ h.0 h.1

pub slice_bounds-classify-end : goal.slice_bounds-classify-end
slice_bounds-classify-end c = let l = lengths _ _ c.ended_at-extent.ensures in sym (length-take-le _ _ (omega (arith, l.shorter, l.within)))

pub classify-requires : goal.classify-requires
classify-requires c =
    let p = c.requires in
    (p.0, simp length-take (omega (arith, p.1)), text_sound _ _ _ _ _ c.ended_at-extent.ensures c.ascii_body-reached.ensures c.body_end-end.ensures.0 p.2)

pub returns : goal.returns
returns c = classed_is _ _ _ _ c.ended_at-extent.ensures c.classify.ensures
