-- Bytes that are in a row: a test of each, as the code writes it for eight, and what it says of each.
use mathlib.Core.Path.{◌≡◌}
use mathlib.Core.Bool.{Bool, true, ◌&&◌, and-eq-true_iff}
use mathlib.Core.Logic.{⊎_elim}
use mathlib.Core.List.{List}
use Prim.Native.Nat.{ℕ, zero, suc, ◌+◌, ◌≤◌, ◌<◌}
use native.Mathlib.Nat.{eq-or-lt_of_le}
use native.Mathlib.Omega.{arith}
use lib.ListN.{get_or}

-- a test of the byte at a place and of the n after it
unfoldable pub all_at : (ℕ → Bool) → List ℕ → ℕ → ℕ → Bool
all_at test s i zero = test (get_or s i 0)
all_at test s i (suc n) = all_at test s i n && test (get_or s (i + suc n) 0)

pub all_each : (test : ℕ → Bool) (s : List ℕ) (i n : ℕ) → all_at test s i n ≡ true → (k : ℕ) → i ≤ k → k ≤ i + n → test (get_or s k 0) ≡ true
unfolding all_at
all_each test s i zero e k h l = let q : k ≡ i = omega arith in rw q e
all_each test s i (suc n) e k h l =
    let p = (and-eq-true_iff _ _).0 e in
    ⊎_elim (λ (q : k ≡ i + suc n). rw q p.1) (λ (q : k < i + suc n). all_each test s i n p.0 k h (omega arith)) (eq-or-lt_of_le l)
