-- Two texts compared: eight bytes that are the same in both, and the last byte of a text that begins another.
use mathlib.Core.Path.{◌≡◌, refl, ap, ◌∙◌}
use mathlib.Core.Bool.{Bool, true, false, ◌&&◌, and-eq-true_iff}
use mathlib.Core.List.{List}
use Prim.Native.Nat.{ℕ, zero, suc, ◌+◌, ◌≤◌, ◌<◌}
use native.Mathlib.Omega.{arith}
use lib.Dec.{eqb}
use lib.ListN.{length, get_or, drop, get_or-append}
use borrow.Author.Tests.{eqb-true}
use Rattle.lists.specs.Runs.{begins}
use Rattle.lists.proofs.Runs.{begins_front}
use Rattle.lists.proofs.RunsAt.{begins_within, begins_done, begins_more}

-- the byte at a place and the n after it are the same in both
unfoldable pub same_at : List ℕ → List ℕ → ℕ → ℕ → Bool
same_at p s i zero = eqb (get_or s i 0) (get_or p i 0)
same_at p s i (suc n) = same_at p s i n && eqb (get_or s (i + suc n) 0) (get_or p (i + suc n) 0)

module _ (p s : List ℕ) where
  same_run : (i n : ℕ) → i + n < length p → length p ≤ length s → same_at p s i n ≡ true → begins (drop i p) (drop i s) ≡ begins (drop (i + suc n) p) (drop (i + suc n) s)
  unfolding same_at
  same_run i zero h k e = begins_more p s i (omega arith) (omega arith) (eqb-true _ _ e)
  same_run i (suc n) h k e =
      let b = (and-eq-true_iff _ _).0 e in
      let q : i + suc n + 1 ≡ i + suc (suc n) = omega arith in
      same_run i n (omega arith) k b.0 ∙ begins_more p s (i + suc n) h (omega arith) (eqb-true _ _ b.1) ∙ ap (λ (j : ℕ). begins (drop j p) (drop j s)) q

  pub same_eight : (i : ℕ) → i + 8 ≤ length p → length p ≤ length s → same_at p s i 7 ≡ true → begins (drop i p) (drop i s) ≡ begins (drop (i + 8) p) (drop (i + 8) s)
  same_eight i h k e = same_run i 7 (omega arith) k e

  -- ---- what rules it out

  pub begins_empty : length p ≡ 0 → begins p s ≡ true
  begins_empty h = begins_done p s 0 (omega arith)

  pub begins_longer : length s < length p → begins p s ≡ false
  begins_longer h = pick (begins p s) refl
    where
      pick : (t : Bool) → begins p s ≡ t → t ≡ false
      pick true e = absurd (omega (arith, begins_within p s e))
      pick false e = refl

  same_byte : begins p s ≡ true → (i : ℕ) → i < length p → get_or s i 0 ≡ get_or p i 0
  same_byte e i h = ap (λ (xs : List ℕ). get_or xs i 0) (begins_front p s e) ∙ get_or-append p (drop (length p) s) 0 i h

  pub begins_unlike : (i : ℕ) → i < length p → (get_or s i 0 ≡ get_or p i 0 → ⊥) → begins p s ≡ false
  begins_unlike i h u = pick (begins p s) refl
    where
      pick : (t : Bool) → begins p s ≡ t → t ≡ false
      pick true e = absurd (u (same_byte e i h))
      pick false e = refl
