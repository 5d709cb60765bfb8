-- A run of stores, `sets l k vs`: what is read of it within and elsewhere, and the run cut out again. A list that is filled up to its end.
use mathlib.Core.Path.{◌≡◌, refl, ◌∙◌}
use mathlib.Core.List.{List, [], ◌∷◌}
use Prim.Native.Nat.{ℕ, zero, suc, ◌+◌, ◌≤◌, ◌<◌}
use native.Mathlib.Omega.{arith}
use native.Mathlib.Nat.{add-zero, add-suc, suc-add}
use native.Mathlib.Numerals.{add-one, add-two, add-three, add-four, add_five, add_six}
use lib.ListN.{length, get_or, set, length-set}
use lib.Seq.{sets, get_or-set_same, get_or-set_other}

module _ {A : Type 0} (d : A) where
  pub sets_other : (l : List A) (k : ℕ) (vs : List A) (m : ℕ) → ((j : ℕ) → j < length vs → m ≡ k + j → ⊥) → get_or (sets l k vs) m d ≡ get_or l m d
  sets_other l k [] m ne = refl
  sets_other l k (v ∷ vs) m ne =
      sets_other (set l k v) (suc k) vs m (λ j h e. ne (suc j) (omega arith) (omega arith)) ∙ get_or-set_other l k m v d (λ e. ne 0 (omega arith) (omega arith))

  pub sets_within : (l : List A) (k : ℕ) (vs : List A) (j : ℕ) → j < length vs → k + length vs ≤ length l → get_or (sets l k vs) (k + j) d ≡ get_or vs j d
  sets_within l k [] j h f = absurd (omega arith)
  sets_within l k (v ∷ vs) zero h f =
      rw (add-zero k, sets_other (set l k v) (suc k) vs k (λ j g e. omega arith)) (get_or-set_same l k v d (omega arith))
  sets_within l k (v ∷ vs) (suc j) h f =
      rw (add-suc k j, ← suc-add k j) (sets_within (set l k v) (suc k) vs j (omega arith) (rw length-set (omega arith)))

-- seven stores one by one
pub sets_seven : {A : Type 0} (l : List A) (k : ℕ) (a b c d e f g : A)
    → set (set (set (set (set (set (set l k a) (k + 1) b) (k + 2) c) (k + 3) d) (k + 4) e) (k + 5) f) (k + 6) g
    ≡ sets l k (a ∷ b ∷ c ∷ d ∷ e ∷ f ∷ g ∷ [])
sets_seven l k a b c d e f g = rw (add-one k, add-two k, add-three k, add-four k, add_five k, add_six k)
