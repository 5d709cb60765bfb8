-- Leading runs: the elements at the front that satisfy a test, and what is after them. And: all of a list satisfies a test, a list begins another.
use Rattle.std.specs.Prelude.{Bool, true, false, List, [], ◌∷◌, ◌++◌, ℕ, eqb}

module _ {A : Type 0} (test : A → Bool) where
  unfoldable pub while : List A → List A
  while [] = []
  while (x ∷ xs) = elim (test x) [ true ↦ x ∷ while xs | false ↦ [] ]

  unfoldable pub behind : List A → List A
  behind [] = []
  behind (x ∷ xs) = elim (test x) [ true ↦ behind xs | false ↦ x ∷ xs ]

  unfoldable pub every : List A → Bool
  every [] = true
  every (x ∷ xs) = elim (test x) [ true ↦ every xs | false ↦ false ]

-- p is at the front of xs
unfoldable pub begins : List ℕ → List ℕ → Bool
begins [] xs = true
begins (a ∷ p) [] = false
begins (a ∷ p) (x ∷ xs) = elim (eqb a x) [ true ↦ begins p xs | false ↦ false ]

-- the lists that f gives for the elements, joined in order
module _ {A B : Type 0} (f : A → List B) where
  unfoldable pub joined : List A → List B
  joined [] = []
  joined (x ∷ xs) = f x ++ joined xs
