-- A list from a place on, as the code's indices see it: nothing, or the element at the place and the list after it.
use mathlib.Core.Path.{◌≡◌, refl, ap}
use mathlib.Core.List.{List, [], ◌∷◌}
use Prim.Native.Nat.{ℕ, zero, suc, ◌+◌, ◌-◌, ◌≤◌, ◌<◌}
use native.Mathlib.Numerals.{add-one}
use native.Mathlib.Omega.{arith}
use lib.ListN.{length, get_or, drop, drop_of_length-le}
use lib.Seq.{drop-cons}

module _ {A : Type 0} (d : A) (s : List A) (i : ℕ) where
  pub drop_here : i < length s → drop i s ≡ get_or s i d ∷ drop (i + 1) s
  drop_here h = rw add-one (drop-cons s i d h)

  pub drop_none : length s ≤ i → drop i s ≡ []
  drop_none h = drop_of_length-le s {i = i} h

pub behind_first : {A : Type 0} (d x : A) (xs : List A) (k : ℕ) → (k ≡ 0 → ⊥) → get_or (x ∷ xs) k d ≡ get_or xs (k - 1) d
behind_first d x xs zero h = absurd (h refl)
behind_first d x xs (suc k) h = ap (λ (m : ℕ). get_or xs m d) (omega arith)
