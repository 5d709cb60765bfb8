-- The laws of a statement about each element of a list: at one of them, of the parts of a list, and of what a list is made into.
use mathlib.Core.Path.{subst⁻¹}
use mathlib.Core.List.Memᴰ
use mathlib.Core.List.{List, [], ◌∷◌, ◌++◌, map}
use Prim.Native.Nat.{ℕ, zero, suc}
use lib.ListN.{take, drop}
use Rattle.lists.specs.Runs.{joined}
use Rattle.lists.specs.Theorems.All.{All, ◌∈◌}
use Rattle.lists.proofs.Parts.{joined_nil, joined_cons}

module _ {A : Type 0} (P : A → Type 0) where
  pub all_at : {x : A} {xs : List A} → All P xs → x ∈ xs → P x
  all_at a (Memᴰ.head e) = subst⁻¹ P e a.0
  all_at a (Memᴰ.tail m) = all_at a.1 m

  pub all_drop : (n : ℕ) (xs : List A) → All P xs → All P (drop n xs)
  all_drop zero xs a = a
  all_drop (suc n) [] a = a
  all_drop (suc n) (x ∷ xs) a = all_drop n xs a.1

  pub all_take : (n : ℕ) (xs : List A) → All P xs → All P (take n xs)
  all_take zero xs a = tt
  all_take (suc n) [] a = a
  all_take (suc n) (x ∷ xs) a = (a.0, all_take n xs a.1)

  pub all_append : (xs ys : List A) → All P xs → All P ys → All P (xs ++ ys)
  all_append [] ys a b = b
  all_append (x ∷ xs) ys a b = (a.0, all_append xs ys a.1 b)

  pub all_front : (xs ys : List A) → All P (xs ++ ys) → All P xs
  all_front [] ys a = tt
  all_front (x ∷ xs) ys a = (a.0, all_front xs ys a.1)

  pub all_back : (xs ys : List A) → All P (xs ++ ys) → All P ys
  all_back [] ys a = a
  all_back (x ∷ xs) ys a = all_back xs ys a.1

-- of the images of a list's elements
pub all_map : {A B : Type 0} (P : B → Type 0) (f : A → B) (xs : List A) → All (λ x. P (f x)) xs → All P (map f xs)
all_map P f [] a = tt
all_map P f (x ∷ xs) a = (a.0, all_map P f xs a.1)

-- from one statement to another
pub all_weaken : {A : Type 0} (P Q : A → Type 0) → ((x : A) → P x → Q x) → (xs : List A) → All P xs → All Q xs
all_weaken P Q f [] a = tt
all_weaken P Q f (x ∷ xs) a = (f x a.0, all_weaken P Q f xs a.1)

pub all_joined : {A B : Type 0} (f : A → List B) (P : B → Type 0) (xs : List A) → All (λ x. All P (f x)) xs → All P (joined f xs)
all_joined f P [] a = rw joined_nil tt
all_joined f P (x ∷ xs) a = rw joined_cons (all_append P (f x) (joined f xs) a.0 (all_joined f P xs a.1))
