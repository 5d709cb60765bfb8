-- Lists end to end: a leading run and what is after it are the list; runs, `every` and `joined` of two lists, and of lists of lists.
use mathlib.Core.Path.{◌≡◌, refl, sym, ap}
use mathlib.Core.Bool.{Bool, true, false, ◌&&◌}
use mathlib.Core.List.{List, [], ◌∷◌, ◌++◌, append_assoc}
use Prim.Native.Nat.{◌<◌}
use native.Mathlib.Omega.{arith}
use lib.ListN.{length}
use Rattle.lists.specs.Runs.{while, behind, every, joined}
use Rattle.lists.proofs.Runs.{while_more, while_end, behind_more, behind_end, every_more, every_end}

module _ {A : Type 0} (test : A → Bool) where
  pub while_nil : while test [] ≡ []
  unfolding while
  while_nil = refl

  pub behind_nil : behind test [] ≡ []
  unfolding behind
  behind_nil = refl

  pub every_nil : every test [] ≡ true
  unfolding every
  every_nil = refl

  pub every_cons : (x : A) (xs : List A) → every test (x ∷ xs) ≡ (test x && every test xs)
  every_cons x xs = go (test x) refl
    where
      go : (b : Bool) → test x ≡ b → every test (x ∷ xs) ≡ (b && every test xs)
      go true e = every_more test x xs e
      go false e = every_end test x xs e

  -- a leading run and what is after it are the list
  pub while_behind : (xs : List A) → while test xs ++ behind test xs ≡ xs
  while_behind [] = rw (while_nil, behind_nil)
  while_behind (x ∷ xs) = go (test x) refl (while_behind xs)
    where
      go : (b : Bool) → test x ≡ b → while test xs ++ behind test xs ≡ xs → while test (x ∷ xs) ++ behind test (x ∷ xs) ≡ x ∷ xs
      go true e h = rw (while_more test x xs e, behind_more test x xs e, h)
      go false e h = rw (while_end test x xs e, behind_end test x xs e)

  -- a run that ends inside a list is the same with more after the list
  pub while_append : (xs ys : List A) → length (while test xs) < length xs → while test (xs ++ ys) ≡ while test xs
  while_append [] ys h = absurd (omega (arith, ap length while_nil))
  while_append (x ∷ xs) ys h = go (test x) refl (while_append xs ys)
    where
      go : (b : Bool) → test x ≡ b → (length (while test xs) < length xs → while test (xs ++ ys) ≡ while test xs) → while test (x ∷ xs ++ ys) ≡ while test (x ∷ xs)
      go true e ih = rw (while_more test x (xs ++ ys) e, while_more test x xs e, ih (omega (arith, ap length (while_more test x xs e))))
      go false e ih = rw (while_end test x (xs ++ ys) e, while_end test x xs e)

  pub every_while : (xs : List A) → every test (while test xs) ≡ true
  every_while [] = rw (while_nil, every_nil)
  every_while (x ∷ xs) = go (test x) refl (every_while xs)
    where
      go : (b : Bool) → test x ≡ b → every test (while test xs) ≡ true → every test (while test (x ∷ xs)) ≡ true
      go true e h = rw (while_more test x xs e, every_cons, e, h)
      go false e h = rw (while_end test x xs e, every_nil)

  pub every_behind : (xs : List A) → every test (behind test xs) ≡ every test xs
  every_behind [] = rw behind_nil
  every_behind (x ∷ xs) = go (test x) refl (every_behind xs)
    where
      go : (b : Bool) → test x ≡ b → every test (behind test xs) ≡ every test xs → every test (behind test (x ∷ xs)) ≡ every test (x ∷ xs)
      go true e h = rw (behind_more test x xs e, every_more test x xs e, h)
      go false e h = rw (behind_end test x xs e)

  pub every_append : (xs ys : List A) → every test (xs ++ ys) ≡ (every test xs && every test ys)
  every_append [] ys = rw every_nil
  every_append (x ∷ xs) ys = rw (every_cons x (xs ++ ys), every_cons x xs, every_append xs ys) (assoc (test x) (every test xs) (every test ys))
    where
      assoc : (a b c : Bool) → (a && (b && c)) ≡ (a && b && c)
      assoc true b c = refl
      assoc false b c = refl

module _ {A B : Type 0} (f : A → List B) where
  pub joined_nil : joined f [] ≡ []
  unfolding joined
  joined_nil = refl

  pub joined_cons : (x : A) (xs : List A) → joined f (x ∷ xs) ≡ f x ++ joined f xs
  unfolding joined
  joined_cons x xs = refl

  pub joined_append : (xs ys : List A) → joined f (xs ++ ys) ≡ joined f xs ++ joined f ys
  joined_append [] ys = rw joined_nil
  joined_append (x ∷ xs) ys = rw (joined_cons x (xs ++ ys), joined_cons x xs, joined_append xs ys) (sym (append_assoc (f x) (joined f xs) (joined f ys)))

pub joined_joined : {A B C : Type 0} (f : B → List C) (g : A → List B) (xs : List A) → joined f (joined g xs) ≡ joined (λ x. joined f (g x)) xs
joined_joined f g [] = rw (joined_nil g, joined_nil f, joined_nil (λ x. joined f (g x)))
joined_joined f g (x ∷ xs) = rw (joined_cons g x xs, joined_append f (g x) (joined g xs), joined_joined f g xs, joined_cons (λ y. joined f (g y)) x xs)
