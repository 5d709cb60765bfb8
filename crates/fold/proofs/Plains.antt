-- Bytes from 20 to 7E, one run after another.
use mathlib.Core.Path.{◌≡◌}
use mathlib.Core.Bool.{true}
use mathlib.Core.List.{List}
use Prim.Native.Nat.{ℕ, ◌+◌, ◌≤◌}
use native.Mathlib.Omega.{arith}
use lib.ListN.{length}
use Rattle.text.proofs.Rows.{all_at, all_each}
use Rattle.fold.specs.Cited.Steps.{plain_byte, Plain}

-- by a test of eight bytes
pub plain_eight : (s : List ℕ) (i : ℕ) → i + 8 ≤ length s → all_at plain_byte s i 7 ≡ true → Plain s i (i + 8)
plain_eight s i h e = record { on = omega arith; within = h; each = λ k a b. all_each plain_byte s i 7 e k a (omega arith) }
