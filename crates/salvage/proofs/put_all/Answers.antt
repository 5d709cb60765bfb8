-- `salvage::put_all` meets its contract. Invariant: what is left of the notes, written behind what is written, gives the whole.
use native.Mathlib.Omega.{arith}
use Rattle.salvage.proofs.Counts.{line_length}
use Rattle.salvage.proofs.Writes.{notes_begin, line_fits, line_then, notes_put}
use Rattle.salvage.proofs.put_all.Goals as goal

pub loop-at-init : goal.loop-at-init
loop-at-init c = notes_begin _ _ _ _

pub put_line-n-requires : goal.put_line-n-requires
put_line-n-requires c =
    let l = c.line_end-end.ensures in
    (omega (arith, c.requires.0, line_length _ _ _ l, l.on, l.within), line_fits c.loop-at.invariant l c.requires.1)

pub loop-at-preserved : goal.loop-at-preserved
loop-at-preserved c = line_then c.loop-at.invariant c.line_end-end.ensures c.put_line-n.ensures

pub returns : goal.returns
returns c = let p = notes_put c.loop-at.invariant c.loop-at-test.false in (p.copied, p.placed, p.kept)
