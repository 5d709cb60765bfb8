-- Numbers that ascend below a bound: each is below it, one may go, the bound may come; and what is read at all of them but one.
use mathlib.Core.Path.{◌≡◌, refl, ap₂}
use mathlib.Core.List.{List, [], ◌∷◌, ◌++◌, map}
use Prim.Native.Nat.{ℕ, zero, suc, ◌+◌, ◌≤◌, ◌<◌}
use native.Mathlib.Omega.{arith}
use lib.ListN.{length, get_or}
use Rattle.knuth_plass.specs.Cited.Table.{Ascends}

weaker : (lo lo₁ hi : ℕ) (xs : List ℕ) → lo ≤ lo₁ → Ascends lo₁ hi xs → Ascends lo hi xs
weaker lo lo₁ hi [] h a = omega arith
weaker lo lo₁ hi (x ∷ xs) h a = (omega arith, a.1)

-- with the numbers in view there is room for each
pub ascends_length : (lo hi : ℕ) (xs : List ℕ) → Ascends lo hi xs → lo + length xs ≤ hi
ascends_length lo hi [] a = omega arith
ascends_length lo hi (x ∷ xs) a = let r = ascends_length (suc x) hi xs a.1 in omega arith

pub ascends_first : (lo hi x : ℕ) (xs : List ℕ) → Ascends lo hi (x ∷ xs) → x < hi
ascends_first lo hi x xs a = let r = ascends_length (suc x) hi xs a.1 in omega arith

pub ascends_each : (lo hi : ℕ) (xs : List ℕ) (k : ℕ) → Ascends lo hi xs → k < length xs → get_or xs k 0 < hi
ascends_each lo hi [] k a h = absurd (omega arith)
ascends_each lo hi (x ∷ xs) zero a h = ascends_first lo hi x xs a
ascends_each lo hi (x ∷ xs) (suc k) a h = ascends_each (suc x) hi xs k a.1 (omega arith)

pub ascends_more : (lo hi : ℕ) (xs : List ℕ) → Ascends lo hi xs → Ascends lo (suc hi) (xs ++ hi ∷ [])
ascends_more lo hi [] a = (a, omega arith)
ascends_more lo hi (x ∷ xs) a = (a.0, ascends_more (suc x) hi xs a.1)

module _ (n : ℕ) (ys : List ℕ) where
  pub ascends_less : (lo hi : ℕ) (xs : List ℕ) → Ascends lo hi (xs ++ n ∷ ys) → Ascends lo hi (xs ++ ys)
  ascends_less lo hi [] a = weaker lo (suc n) hi ys (omega arith) a.1
  ascends_less lo hi (x ∷ xs) a = (a.0, ascends_less (suc x) hi xs a.1)

  pub ascends_at : (lo hi : ℕ) (xs : List ℕ) → Ascends lo hi (xs ++ n ∷ ys) → (lo ≤ n) × (n < hi)
  ascends_at lo hi [] a = (a.0, ascends_first lo hi n ys a)
  ascends_at lo hi (x ∷ xs) a = let r = ascends_at (suc x) hi xs a.1 in (omega arith, r.1)

module _ {B : Type 0} (f g : ℕ → B) where
  pub map_below : (lo hi : ℕ) (xs : List ℕ) → Ascends lo hi xs → ((j : ℕ) → lo ≤ j → j < hi → f j ≡ g j) → map f xs ≡ map g xs
  map_below lo hi [] a e = refl
  map_below lo hi (x ∷ xs) a e =
      ap₂ (λ (b : B) (bs : List B). b ∷ bs) (e x a.0 (ascends_first lo hi x xs a)) (map_below (suc x) hi xs a.1 (λ j h k. e j (omega arith) k))

  module _ (n : ℕ) (ys : List ℕ) where
    pub map_left : (lo hi : ℕ) (xs : List ℕ) → Ascends lo hi (xs ++ n ∷ ys) → ((j : ℕ) → j < hi → (j ≡ n → ⊥) → f j ≡ g j) → map f xs ≡ map g xs
    map_left lo hi [] a e = refl
    map_left lo hi (x ∷ xs) a e =
        let r = ascends_at n ys (suc x) hi xs a.1 in
        ap₂ (λ (b : B) (bs : List B). b ∷ bs) (e x (omega arith) (λ q. omega arith)) (map_left (suc x) hi xs a.1 e)

    pub map_right : (lo hi : ℕ) (xs : List ℕ) → Ascends lo hi (xs ++ n ∷ ys) → ((j : ℕ) → j < hi → (j ≡ n → ⊥) → f j ≡ g j) → map f ys ≡ map g ys
    map_right lo hi [] a e = map_below (suc n) hi ys a.1 (λ j h k. e j k (λ q. omega arith))
    map_right lo hi (x ∷ xs) a e = map_right (suc x) hi xs a.1 e
