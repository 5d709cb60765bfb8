-- A walk whose items hold what their strides take: the items joined are the list. And what each stride gives, all items have.
use mathlib.Core.Path.{◌≡◌}
use mathlib.Core.List.{List, [], ◌∷◌, ◌++◌}
use Prim.Native.Nat.{ℕ, zero, suc, ◌≤◌, ◌<◌}
use native.Mathlib.Omega.{arith}
use lib.ListN.{length, take, drop, length-drop, take-append-drop}
use Rattle.lists.specs.Walk.{Stride, walk, piece, each}
use Rattle.lists.specs.Runs.{joined}
use Rattle.lists.specs.Theorems.All.{All}
use Rattle.lists.proofs.Walk.{walk_nil, walk_step, walk_append}
use Rattle.lists.proofs.Parts.{joined_nil, joined_cons}

module _ {A B S : Type 0} (stride : S → List A → Stride B S) where
  module _ (held : B → List A) (holds : (s : S) (xs : List A) → 0 < length xs → held (stride s xs).item ≡ take (suc (stride s xs).besides) xs) where
    joined_upto : (k : ℕ) (s : S) (xs : List A) → length xs ≤ k → joined held (walk stride s xs) ≡ xs
    joined_upto zero s [] h = rw (walk_nil, joined_nil)
    joined_upto zero s (x ∷ xs) h = absurd (omega arith)
    joined_upto (suc k) s [] h = rw (walk_nil, joined_nil)
    joined_upto (suc k) s (x ∷ xs) h =
        let n = (stride s (x ∷ xs)).besides in
        let d = length-drop n xs in
        rw (
          walk_step stride s (x ∷ xs) (omega arith),
          joined_cons,
          holds s (x ∷ xs) (omega arith),
          joined_upto k (stride s (x ∷ xs)).state (drop n xs) (omega arith),
          take-append-drop n xs,
        )

    pub walk_joined : (s : S) (xs : List A) → joined held (walk stride s xs) ≡ xs
    walk_joined s xs = joined_upto (length xs) s xs (omega arith)

  -- P is what each stride gives of a list that is Fit; and after a stride a list is Fit
  module _ (P : B → Type 0) (Fit : List A → Type 0) (fit-drop : (n : ℕ) (xs : List A) → Fit xs → Fit (drop n xs))
      (gives : (s : S) (xs : List A) → 0 < length xs → Fit xs → P (stride s xs).item) where
    all_upto : (k : ℕ) (s : S) (xs : List A) → length xs ≤ k → Fit xs → All P (walk stride s xs)
    all_upto zero s [] h f = rw walk_nil tt
    all_upto zero s (x ∷ xs) h f = absurd (omega arith)
    all_upto (suc k) s [] h f = rw walk_nil tt
    all_upto (suc k) s (x ∷ xs) h f =
        let n = (stride s (x ∷ xs)).besides in
        let d = length-drop n xs in
        rw (walk_step stride s (x ∷ xs) (omega arith)) (gives s (x ∷ xs) (omega arith) f, all_upto k (stride s (x ∷ xs)).state (drop n xs) (omega arith) (fit-drop (suc n) (x ∷ xs) f))

    pub walk_all : (s : S) (xs : List A) → Fit xs → All P (walk stride s xs)
    walk_all s xs f = all_upto (length xs) s xs (omega arith) f

-- the same of a walk without a state
module _ {A B : Type 0} (cut : List A → ℕ) (f : List A → B) where
  pub each_joined : (held : B → List A) → ((xs : List A) → 0 < length xs → held (f xs) ≡ take (suc (cut xs)) xs) → (xs : List A) → joined held (each cut f xs) ≡ xs
  unfolding each piece
  each_joined held holds xs = walk_joined (piece cut f) held (λ s ys h. holds ys h) tt xs

  pub each_all : (P : B → Type 0) → ((xs : List A) → 0 < length xs → P (f xs)) → (xs : List A) → All P (each cut f xs)
  unfolding each piece
  each_all P gives xs = walk_all (piece cut f) P (λ ys. Unit {0}) (λ n ys u. tt) (λ s ys h u. gives ys h) tt xs tt

  -- a list that its pieces do not look past
  pub each_append : (Whole : List A → Type 0) (b : List A)
      → ((a : List A) → Whole a → 0 < length a → (f (a ++ b) ≡ f a) × (cut (a ++ b) ≡ cut a) × (cut a < length a) × Whole (drop (suc (cut a)) a))
      → (a : List A) → Whole a → each cut f (a ++ b) ≡ each cut f a ++ each cut f b
  unfolding each piece
  each_append Whole b stays a w = walk_append (piece cut f) Whole b (λ s c v h. let t = stays c v h in (λ i. record { item = t.0 i; besides = t.1 i; state = s }, t.2, t.3)) tt a w
