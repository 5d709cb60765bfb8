-- Leading runs, and a list that begins another, at a place: as the code's indices see them.
use mathlib.Core.Path.{◌≡◌, refl, sym, ap, ◌∙◌}
use mathlib.Core.Bool.{Bool, true, false}
use mathlib.Core.List.{List, [], ◌∷◌}
use Prim.Native.Nat.{ℕ, suc, ◌+◌, ◌≤◌, ◌<◌}
use native.Mathlib.Omega.{arith}
use lib.ListN.{length, get_or, take, drop, length-append}
use borrow.Author.Tests.{eq-eqb, ne_eqb}
use Rattle.lists.specs.Runs.{while, behind, every, begins}
use Rattle.lists.proofs.Runs.{while_more, while_end, behind_more, behind_end, every_more, begins_front}
use Rattle.lists.proofs.Views.{drop_here, drop_none}

module _ {A : Type 0} (test : A → Bool) where
  pub while_within : (xs : List A) → length (while test xs) ≤ length xs
  unfolding while
  while_within [] = omega arith
  while_within (x ∷ xs) = pick (test x) refl (while_within xs)
    where
      pick : (t : Bool) → test x ≡ t → length (while test xs) ≤ length xs → length (while test (x ∷ xs)) ≤ suc (length xs)
      pick true h k = rw (while_more test x xs h) (omega arith)
      pick false h k = rw (while_end test x xs h) (omega arith)

  pub while_front : (xs : List A) → while test xs ≡ take (length (while test xs)) xs
  unfolding while
  while_front [] = refl
  while_front (x ∷ xs) = pick (test x) refl (while_front xs)
    where
      pick : (t : Bool) → test x ≡ t → while test xs ≡ take (length (while test xs)) xs → while test (x ∷ xs) ≡ take (length (while test (x ∷ xs))) (x ∷ xs)
      pick true h e = rw (while_more test x xs h) (ap (λ (l : List A). x ∷ l) e)
      pick false h e = rw (while_end test x xs h)

  -- not all pass: the first that fails
  pub behind_first : (xs : List A) → every test xs ≡ false → (x : A) × (ys : List A) × (behind test xs ≡ x ∷ ys) × (test x ≡ false)
  unfolding every
  behind_first [] h = absurd (let z : ◌≡◌ {A = ℕ} 0 1 = cc in omega arith)
  behind_first (x ∷ xs) h = pick (test x) refl (behind_first xs)
    where
      pick : (t : Bool) → test x ≡ t → (every test xs ≡ false → (y : A) × (ys : List A) × (behind test xs ≡ y ∷ ys) × (test y ≡ false))
          → (y : A) × (ys : List A) × (behind test (x ∷ xs) ≡ y ∷ ys) × (test y ≡ false)
      pick true t rest = rw (behind_more test x xs t) (rest (sym (every_more test x xs t) ∙ h))
      pick false t rest = (x, xs, behind_end test x xs t, t)

  -- the run's end, counted from a place inside it
  module _ (d : A) (s : List A) (i : ℕ) where
    pub run_past : length s ≤ i → i + length (while test (drop i s)) ≡ i
    unfolding while
    run_past h = rw (drop_none d s i h) (omega arith)

    pub run_end : i < length s → test (get_or s i d) ≡ false → i + length (while test (drop i s)) ≡ i
    run_end h e = rw (drop_here d s i h, while_end test (get_or s i d) (drop (i + 1) s) e) (omega arith)

    pub run_more : i < length s → test (get_or s i d) ≡ true → i + length (while test (drop i s)) ≡ (i + 1) + length (while test (drop (i + 1) s))
    run_more h e = rw (drop_here d s i h, while_more test (get_or s i d) (drop (i + 1) s) e) (omega arith)

pub begins_within : (p xs : List ℕ) → begins p xs ≡ true → length p ≤ length xs
begins_within p xs h = omega (arith, ap length (begins_front p xs h), length-append p (drop (length p) xs))

module _ (p s : List ℕ) (i : ℕ) where
  pub begins_done : length p ≤ i → begins (drop i p) (drop i s) ≡ true
  unfolding begins
  begins_done h = rw (drop_none 0 p i h)

  module _ (h : i < length p) (k : i < length s) where
    pub begins_other : (get_or s i 0 ≡ get_or p i 0 → ⊥) → begins (drop i p) (drop i s) ≡ false
    unfolding begins
    begins_other e = rw (drop_here 0 p i h, drop_here 0 s i k, ne_eqb (get_or p i 0) (get_or s i 0) (λ q. e (sym q)), begins)

    pub begins_more : get_or s i 0 ≡ get_or p i 0 → begins (drop i p) (drop i s) ≡ begins (drop (i + 1) p) (drop (i + 1) s)
    unfolding begins
    begins_more e = rw (drop_here 0 p i h, drop_here 0 s i k, eq-eqb (get_or p i 0) (get_or s i 0) (sym e), begins)
