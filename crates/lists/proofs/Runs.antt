-- Laws of leading runs: one element more, or the run's end; and of a list that begins another.
use mathlib.Core.Path.{◌≡◌, refl, sym, ap₂, ◌∙◌}
use mathlib.Core.Bool.{Bool, true, false}
use mathlib.Core.List.{List, [], ◌∷◌, ◌++◌, map}
use Prim.Native.Nat.{ℕ}
use native.Mathlib.Omega.{arith}
use lib.Dec.{eqb}
use lib.ListN.{length, drop}
use borrow.Author.Tests.{eqb-true, eq-eqb}
use Rattle.lists.specs.Runs.{while, behind, every, begins}

module _ {A : Type 0} (test : A → Bool) (x : A) (xs : List A) where
  pub while_more : test x ≡ true → while test (x ∷ xs) ≡ x ∷ while test xs
  unfolding while
  while_more h = rw (h, while)

  pub while_end : test x ≡ false → while test (x ∷ xs) ≡ []
  unfolding while
  while_end h = rw (h, while)

  pub behind_more : test x ≡ true → behind test (x ∷ xs) ≡ behind test xs
  unfolding behind
  behind_more h = rw (h, behind)

  pub behind_end : test x ≡ false → behind test (x ∷ xs) ≡ x ∷ xs
  unfolding behind
  behind_end h = rw (h, behind)

  pub every_more : test x ≡ true → every test (x ∷ xs) ≡ every test xs
  unfolding every
  every_more h = rw (h, every)

  pub every_end : test x ≡ false → every test (x ∷ xs) ≡ false
  unfolding every
  every_end h = rw (h, every)

pub every_map : {A B : Type 0} (test : B → Bool) (f : A → B) (xs : List A) → every (λ x. test (f x)) xs ≡ every test (map f xs)
unfolding every
every_map test f [] = refl
every_map test f (x ∷ xs) = pick (test (f x)) refl (every_map test f xs)
  where
    pick : (t : Bool) → test (f x) ≡ t → every (λ y. test (f y)) xs ≡ every test (map f xs) → every (λ y. test (f y)) (x ∷ xs) ≡ every test (map f (x ∷ xs))
    pick true h e = every_more (λ y. test (f y)) x xs h ∙ e ∙ sym (every_more test (f x) (map f xs) h)
    pick false h e = every_end (λ y. test (f y)) x xs h ∙ sym (every_end test (f x) (map f xs) h)

pub begins_append : (p r : List ℕ) → begins p (p ++ r) ≡ true
unfolding begins
begins_append [] r = refl
begins_append (a ∷ p) r = rw (eq-eqb a a refl, begins) (begins_append p r)

pub begins_front : (p xs : List ℕ) → begins p xs ≡ true → xs ≡ p ++ drop (length p) xs
unfolding begins
begins_front [] xs h = refl
begins_front (a ∷ p) [] h = absurd (let z : ◌≡◌ {A = ℕ} 0 1 = cc in omega arith)
begins_front (a ∷ p) (x ∷ xs) h = go (eqb a x) refl h (begins_front p xs)
  where
    go : (t : Bool) → eqb a x ≡ t → elim t [ true ↦ begins p xs | false ↦ false ] ≡ true → (begins p xs ≡ true → xs ≡ p ++ drop (length p) xs) → x ∷ xs ≡ a ∷ p ++ drop (length p) xs
    go true e b rest = ap₂ (λ (y : ℕ) (l : List ℕ). y ∷ l) (sym (eqb-true a x e)) (rest b)
    go false e b rest = absurd (let z : ◌≡◌ {A = ℕ} 0 1 = cc in omega arith)
