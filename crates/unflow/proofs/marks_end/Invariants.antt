use mathlib.Core.Path.{◌≡◌}
use Prim.Native.Nat.{◌+◌, ◌-◌, ◌≤◌}
use lib.ListN.{length, drop}
use Rattle.lists.specs.Runs.{while}
use Rattle.unflow.specs.Flowed.{is_mark, quote_depth}
use Rattle.unflow.proofs.marks_end.Given as goal

abbrev pub invariant-loop-i : goal.invariant-loop-i
invariant-loop-i l = (l.i ≤ length l.line) × (l.i + length (while is_mark (drop l.i l.line)) ≡ quote_depth l.line)

abbrev pub decreases-loop-i : goal.decreases-loop-i
decreases-loop-i l = length l.line - l.i
