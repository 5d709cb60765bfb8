-- `regular::spaces_at` meets its contract.
use Prim.Native.Nat.{ℕ}
use native.Mathlib.Omega.{arith}
use lib.ListN.{length-replicate}
use Rattle.output.proofs.Sink.{wrote_part}
use Rattle.regular.proofs.spaces_at.Goals as goal

pub returns : goal.returns
returns c = let n = length-replicate {A = ℕ} c.args.count 32 in (wrote_part _ _ _ _ _ _ c.min-place.ensures c.put_added.ensures, omega (arith, c.put_added.ensures.count, c.requires.0))
