-- The laws of a walk: no stride, one stride and the rest, the same at a place of a longer list; and a list that its strides do not look past.
use mathlib.Core.Path.{◌≡◌, refl, sym, ap, ◌∙◌}
use mathlib.Core.List.{List, [], ◌∷◌, ◌++◌}
use Prim.Native.Nat.{ℕ, zero, suc, ◌+◌, ◌≤◌, ◌<◌}
use native.Mathlib.Omega.{arith}
use lib.ListN.{length, drop, length-drop}
use lib.Seq.{drop-drop, drop-append-le}
use Rattle.lists.specs.Walk.{Stride, walk_up_to, walk, piece, each}

module _ {A B S : Type 0} (stride : S → List A → Stride B S) where
  -- the state that a walk ends in
  unfoldable pub last_up_to : ℕ → S → List A → S
  last_up_to zero s xs = s
  last_up_to (suc k) s [] = s
  last_up_to (suc k) s (x ∷ xs) = let t = stride s (x ∷ xs) in last_up_to k t.state (drop t.besides xs)

  unfoldable pub last : S → List A → S
  last s xs = last_up_to (length xs) s xs

  enough : (k j : ℕ) (s : S) (xs : List A) → length xs ≤ k → length xs ≤ j → (walk_up_to stride k s xs ≡ walk_up_to stride j s xs) × (last_up_to k s xs ≡ last_up_to j s xs)
  unfolding walk_up_to last_up_to
  enough zero zero s xs h g = (refl, refl)
  enough zero (suc j) s [] h g = (refl, refl)
  enough zero (suc j) s (b ∷ r) h g = absurd (omega arith)
  enough (suc k) zero s [] h g = (refl, refl)
  enough (suc k) zero s (b ∷ r) h g = absurd (omega arith)
  enough (suc k) (suc j) s [] h g = (refl, refl)
  enough (suc k) (suc j) s (b ∷ r) h g =
      let t = stride s (b ∷ r) in
      let d = length-drop t.besides r in
      let e = enough k j t.state (drop t.besides r) (omega arith) (omega arith) in
      (ap (λ (l : List B). t.item ∷ l) e.0, e.1)

  pub walk_nil : (s : S) → walk stride s [] ≡ []
  unfolding walk walk_up_to
  walk_nil s = refl

  pub last_nil : (s : S) → last s [] ≡ s
  unfolding last last_up_to
  last_nil s = refl

  pub walk_step : (s : S) (xs : List A) → 0 < length xs → walk stride s xs ≡ (stride s xs).item ∷ walk stride (stride s xs).state (drop (suc (stride s xs).besides) xs)
  unfolding walk walk_up_to
  walk_step s [] h = absurd (omega arith)
  walk_step s (b ∷ r) h =
      let t = stride s (b ∷ r) in
      let d = length-drop t.besides r in
      ap (λ (l : List B). t.item ∷ l) (enough (length r) (length (drop t.besides r)) t.state (drop t.besides r) (omega arith) (omega arith)).0

  pub last_step : (s : S) (xs : List A) → 0 < length xs → last s xs ≡ last (stride s xs).state (drop (suc (stride s xs).besides) xs)
  unfolding last last_up_to
  last_step s [] h = absurd (omega arith)
  last_step s (b ∷ r) h =
      let t = stride s (b ∷ r) in
      let d = length-drop t.besides r in
      (enough (length r) (length (drop t.besides r)) t.state (drop t.besides r) (omega arith) (omega arith)).1

  -- at a place of a longer list: the next stride begins at j
  pub walk_at : (s : S) (x : List A) (i j : ℕ) → i < length x → j ≡ i + suc (stride s (drop i x)).besides
      → walk stride s (drop i x) ≡ (stride s (drop i x)).item ∷ walk stride (stride s (drop i x)).state (drop j x)
  walk_at s x i j h e =
      walk_step s (drop i x) (simp length-drop (omega arith))
      ∙ ap (λ (l : List A). (stride s (drop i x)).item ∷ walk stride (stride s (drop i x)).state l) (drop-drop (suc (stride s (drop i x)).besides) i x ∙ ap (λ (n : ℕ). drop n x) (sym e))

  -- a list that its strides do not look past: what is after it is a walk of its own, from the state that it ends in
  module _ (Whole : List A → Type 0) (b : List A)
      (stays : (s : S) (a : List A) → Whole a → 0 < length a → (stride s (a ++ b) ≡ stride s a) × ((stride s a).besides < length a) × Whole (drop (suc (stride s a).besides) a)) where
    append_upto : (k : ℕ) (s : S) (a : List A) → length a ≤ k → Whole a → walk stride s (a ++ b) ≡ walk stride s a ++ walk stride (last s a) b
    append_upto zero s [] h w = rw (walk_nil, last_nil)
    append_upto zero s (x ∷ r) h w = absurd (omega arith)
    append_upto (suc k) s [] h w = rw (walk_nil, last_nil)
    append_upto (suc k) s (x ∷ r) h w =
        let t = stride s (x ∷ r) in
        let v = stays s (x ∷ r) w (omega arith) in
        let d = length-drop t.besides r in
        rw (
          walk_step s (x ∷ r ++ b) (omega arith),
          walk_step s (x ∷ r) (omega arith),
          last_step s (x ∷ r) (omega arith),
          v.0,
          drop-append-le (suc t.besides) (x ∷ r) b v.1,
          append_upto k t.state (drop (suc t.besides) (x ∷ r)) (omega arith) v.2,
        )

    pub walk_append : (s : S) (a : List A) → Whole a → walk stride s (a ++ b) ≡ walk stride s a ++ walk stride (last s a) b
    walk_append s a w = append_upto (length a) s a (omega arith) w

module _ {A B : Type 0} (cut : List A → ℕ) (f : List A → B) where
  pub each_nil : each cut f [] ≡ []
  unfolding each
  each_nil = walk_nil (piece cut f) tt

  pub each_step : (xs : List A) → 0 < length xs → each cut f xs ≡ f xs ∷ each cut f (drop (suc (cut xs)) xs)
  unfolding each piece
  each_step xs h = walk_step (piece cut f) tt xs h

  -- the same at a place: the next piece begins at i + n
  pub each_at : (s : List A) (i n : ℕ) → i < length s → suc (cut (drop i s)) ≡ n → each cut f (drop i s) ≡ f (drop i s) ∷ each cut f (drop (i + n) s)
  each_at s i n h e = each_step (drop i s) (simp length-drop (omega arith)) ∙ ap (λ (l : List A). f (drop i s) ∷ each cut f l) (rw e (drop-drop n i s))
