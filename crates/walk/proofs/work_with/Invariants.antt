use mathlib.Core.Path.{◌≡◌}
use Prim.Native.Nat.{◌-◌, ◌≤◌, max}
use lib.ListN.{length}
use Rattle.options.specs.Opts.{meant}
use Rattle.walk.specs.Work.{work_for}
use Rattle.walk.proofs.Lent.{work_from}
use Rattle.walk.proofs.work_with.Given as goal

abbrev pub invariant-loop-at : goal.invariant-loop-at
invariant-loop-at l =
    (l.at ≤ length l.notes) × (work_from (meant l.block l.o) l.notes l.most l.mail l.at ≡ max l.lent (work_for (meant l.block l.o) l.notes))

abbrev pub decreases-loop-at : goal.decreases-loop-at
decreases-loop-at l = length l.notes - l.at
