-- Eight bytes as one number: as many of the first are plain as the zeros say.
use mathlib.Core.Path.{◌≡◌, refl}
use mathlib.Core.List.{List}
use Prim.Native.Nat.{ℕ, ◌+◌, ◌/◌, ◌≤◌, ◌<◌}
use native.Mathlib.Omega.{arith}
use lib.ListN.{get_or, length}
use lib.Bits.{bit_and}
use lib.Count.{count_trailing_zeros}
use Rattle.text.specs.Cited.Eights.{as_number, eight_at}
use Rattle.text.proofs.Eights.{clear_of, zeros_few, sum_fits as sum_below, counted}
use Rattle.words.specs.Cited.Scan.{Plain}

module _ (s : List ℕ) (i : ℕ) (small : (k : ℕ) → get_or s k 0 < 256) (x : ℕ) (is : x ≡ as_number (eight_at s i)) (clear : bit_and x 0x8080808080808080 ≡ 0) where
  pub sum_fits : x + 0x5F5F5F5F5F5F5F5F < 18446744073709551616
  unfolding as_number
  sum_fits = sum_below s i small x is clear 95 0x5F5F5F5F5F5F5F5F (omega arith) refl

  pub plain_count : i + 8 ≤ length s → Plain s i (i + count_trailing_zeros 64 (clear_of 0x5F5F5F5F5F5F5F5F x) / 8)
  unfolding as_number
  plain_count h =
      let f = zeros_few (clear_of 0x5F5F5F5F5F5F5F5F x) in
      record {
        on = omega arith;
        within = omega arith;
        least = λ k a b. let e = counted s i small x is clear 95 0x5F5F5F5F5F5F5F5F (omega arith) refl k a b in omega (arith, e.0);
        most = λ k a b. (counted s i small x is clear 95 0x5F5F5F5F5F5F5F5F (omega arith) refl k a b).1;
      }

  -- all eight, where none was marked
  pub all_plain : clear_of 0x5F5F5F5F5F5F5F5F x ≡ 0 → i + 8 ≤ length s → Plain s i (i + 8)
  unfolding count_trailing_zeros
  all_plain none h = rw none at (plain_count h)
