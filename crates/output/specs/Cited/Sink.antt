-- A text written into a slice from a place on, as far as it fits. What does not fit is left off, and counted all the same.
use Rattle.std.specs.Prelude.{◌≡◌, List, [], ◌∷◌, ◌++◌, ℕ, ◌+◌, length, take, drop}

-- o with d written over its front
unfoldable pub paint : List ℕ → List ℕ → List ℕ
paint d [] = []
paint [] (x ∷ o) = x ∷ o
paint (y ∷ d) (x ∷ o) = y ∷ paint d o

-- o with d written from place n on
unfoldable pub written : ℕ → List ℕ → List ℕ → List ℕ
written n o d = take n o ++ paint d (drop n o)

-- a step of a writer: d is written into o after n bytes, which gives o' and the place after
pub record Wrote (o : List ℕ) (n : ℕ) (d : List ℕ) (o' : List ℕ) (n' : ℕ) : Type 0 where
  pub count : n' ≡ n + length d
  pub bytes : o' ≡ written n o d

-- what is left of a writer's work: d₀ was to be written into o₀ after n₀ bytes; now that o and n are reached, d is left
pub record Left (o₀ : List ℕ) (n₀ : ℕ) (d₀ : List ℕ) (o : List ℕ) (n : ℕ) (d : List ℕ) : Type 0 where
  pub count : n + length d ≡ n₀ + length d₀
  pub bytes : written n o d ≡ written n₀ o₀ d₀
