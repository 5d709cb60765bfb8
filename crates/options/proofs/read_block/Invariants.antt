use Prim.Native.Nat.{◌-◌}
use lib.ListN.{length}
use Rattle.options.proofs.Taken.{Reading}
use Rattle.options.proofs.read_block.Given as goal

abbrev pub invariant-loop-at : goal.invariant-loop-at
invariant-loop-at l = Reading l.block l.at l.previous l.parts

abbrev pub decreases-loop-at : goal.decreases-loop-at
decreases-loop-at l = length l.block - l.at
