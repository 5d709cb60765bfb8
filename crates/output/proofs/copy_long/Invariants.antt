use Prim.Native.Nat.{◌≤◌, ◌-◌}
use lib.ListN.{length, take}
use Rattle.output.specs.Cited.Sink.{Wrote}
use Rattle.output.proofs.copy_long.Given as goal

abbrev pub invariant-loop-k : goal.invariant-loop-k
invariant-loop-k l = (l.k ≤ length l.text) × Wrote l.initial.rest 0 (take l.k l.text) l.rest l.k

abbrev pub decreases-loop-k : goal.decreases-loop-k
decreases-loop-k l = l.last - l.k
