-- Eight bytes as one number: as many of the first are from 32 to 127 as the zeros say.
use mathlib.Core.Path.{◌≡◌, refl}
use mathlib.Core.List.{List}
use Prim.Native.Nat.{ℕ, ◌+◌, ◌/◌, ◌<◌}
use native.Mathlib.Omega.{arith}
use lib.ListN.{get_or}
use lib.Bits.{bit_and}
use lib.Count.{count_trailing_zeros}
use Rattle.text.specs.Cited.Places.{Printable}
use Rattle.text.specs.Cited.Eights.{as_number, eight_at}
use Rattle.text.proofs.Eights.{clear_of, sum_fits, counted}

module _ (s : List ℕ) (i : ℕ) (small : (k : ℕ) → get_or s k 0 < 256) (x : ℕ) (is : x ≡ as_number (eight_at s i)) (clear : bit_and x 0x8080808080808080 ≡ 0) where
  pub printable_fits : x + 0x6060606060606060 < 18446744073709551616
  unfolding as_number
  printable_fits = sum_fits s i small x is clear 96 0x6060606060606060 (omega arith) refl

  pub printable_count : Printable s i (i + count_trailing_zeros 64 (clear_of 0x6060606060606060 x) / 8)
  unfolding as_number
  printable_count = λ k a b. let e = counted s i small x is clear 96 0x6060606060606060 (omega arith) refl k a b in (omega (arith, e.0), e.1)
