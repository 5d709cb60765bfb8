-- A list cut into pieces: what holds of all pieces by induction.
use mathlib.Core.List.{List, [], ◌∷◌}
use Prim.Native.Nat.{ℕ, zero, suc, ◌≤◌, ◌<◌}
use native.Mathlib.Omega.{arith}
use lib.ListN.{length, drop, length-drop}
use Rattle.lists.specs.Walk.{each}
use Rattle.lists.proofs.Walk.{each_nil, each_step}

module _ {A B : Type 0} (cut : List A → ℕ) (f : List A → B) where
  -- what holds of nothing, and of a list if it holds of what is after its first piece, holds of every list
  module _ (P : List A → List B → Type 0) (none : P [] [])
      (more : (xs : List A) → 0 < length xs → P (drop (suc (cut xs)) xs) (each cut f (drop (suc (cut xs)) xs)) → P xs (f xs ∷ each cut f (drop (suc (cut xs)) xs))) where
    upto : (k : ℕ) (xs : List A) → length xs ≤ k → P xs (each cut f xs)
    upto zero [] h = rw (each_nil cut f) none
    upto zero (x ∷ xs) h = absurd (omega arith)
    upto (suc k) [] h = rw (each_nil cut f) none
    upto (suc k) (x ∷ xs) h =
        let d = length-drop (cut (x ∷ xs)) xs in
        rw (each_step cut f (x ∷ xs) (omega arith)) (more (x ∷ xs) (omega arith) (upto k (drop (cut (x ∷ xs)) xs) (omega arith)))

    pub each_induct : (xs : List A) → P xs (each cut f xs)
    each_induct xs = upto (length xs) xs (omega arith)
