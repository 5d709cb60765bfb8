use mathlib.Core.Path.{◌≡◌}
use Prim.Native.Nat.{◌-◌}
use lib.ListN.{length, take}
use Rattle.options.specs.Opts.{meant}
use Rattle.paragraphs.specs.Cited.Steps.{room_for}
use Rattle.walk.specs.Cited.Course.{Going, start}
use Rattle.indexer.proofs.Marking.{Marking}
use Rattle.indexer.proofs.note_pieces.Given as goal

abbrev pub invariant-loop-c : goal.invariant-loop-c
invariant-loop-c l =
    let n = l.notes in
    let o = meant n.block.now n.options in
    Going (room_for n.options.quick (l.end - l.marks)) o n.bytes.now start l.initial.out l.c l.out × Marking o n.bytes.now (length l.initial.out) l.marks l.c l.pieces l.line (take l.marks l.work)
    × (length l.work ≡ length l.fn.work)

abbrev pub decreases-loop-c : goal.decreases-loop-c
decreases-loop-c l = length l.notes.bytes.now - l.c.at
