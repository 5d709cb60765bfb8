use Prim.Native.Nat.{◌-◌}
use lib.ListN.{length}
use Rattle.checker.proofs.Scans.{LeadLeft}
use Rattle.checker.proofs.own_no_breaks.Given as goal

abbrev pub invariant-loop-code : goal.invariant-loop-code
invariant-loop-code l = LeadLeft l.word l.i

abbrev pub decreases-loop-code : goal.decreases-loop-code
decreases-loop-code l = length l.word - l.i
