use Prim.Native.Nat.{ℕ, ◌-◌, ◌≤◌}
use lib.ListN.{length}
use Rattle.options.specs.Opts.{meant}
use Rattle.walk.specs.Cited.Course.{Going}
use Rattle.walk.proofs.put_lines.Given as goal

abbrev pub invariant-loop-c : goal.invariant-loop-c
invariant-loop-c l = ((most : ℕ) → Going most (meant l.notes.block.now l.notes.options) l.notes.bytes.now l.initial.c l.initial.out l.c l.out) × (l.initial.c.at ≤ l.c.at)

abbrev pub decreases-loop-c : goal.decreases-loop-c
decreases-loop-c l = length l.notes.bytes.now - l.c.at
