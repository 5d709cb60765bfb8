-- `pieces::line_at` meets its contract: the answer on a part of the notes, by one law.
use native.Mathlib.Omega.{arith}
use lib.ListN.{length-take, length-drop}
use Rattle.pieces.proofs.Places.{part_line, line_is, part_sound}
use Rattle.pieces.proofs.line_at.Goals as goal

pub first_classed-line-requires : goal.first_classed-line-requires
first_classed-line-requires c = let p = c.requires in (p.0.usable, simp (length-take, length-drop) (omega (arith, p.0.short)), part_sound _ _ _ p.0.sound p.1)

pub overflow_add-result : goal.overflow_add-result
overflow_add-result c = let h = part_line _ c.args.notes.now c.args.at _ c.requires.1 c.first_classed-line.ensures in omega (arith, h.shorter, h.within)

pub overflow_add-result-2 : goal.overflow_add-result-2
overflow_add-result-2 c = let h = part_line _ c.args.notes.now c.args.at _ c.requires.1 c.first_classed-line.ensures in omega (arith, h.within)

pub returns : goal.returns
returns c = line_is _ _ _ _ c.requires.1 c.first_classed-line.ensures
