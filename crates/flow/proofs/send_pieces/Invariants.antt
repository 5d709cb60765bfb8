use mathlib.Core.Path.{◌≡◌}
use mathlib.Core.Bool.{true}
use Prim.Native.Nat.{◌-◌}
use lib.ListN.{length}
use Rattle.options.specs.Opts.{meant}
use Rattle.paragraphs.specs.Cited.Steps.{room_for}
use Rattle.flow.proofs.Course.{Going}
use Rattle.flow.proofs.send_pieces.Given as goal

abbrev pub invariant-loop-c : goal.invariant-loop-c
invariant-loop-c l = Going (meant l.block l.o) l.notes (room_for true (length l.initial.work)) l.initial.out l.c l.out × (length l.work ≡ length l.initial.work)

abbrev pub decreases-loop-c : goal.decreases-loop-c
decreases-loop-c l = length l.notes - l.c.at
