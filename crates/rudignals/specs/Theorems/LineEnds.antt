-- A line as it is in the notes: its text, its line end, and what is after it.
use Rattle.std.specs.Prelude.{◌≡◌, true, List, [], ◌∷◌, ℕ, ◌<◌, length}
use Rattle.lists.specs.Runs.{every}
use Rattle.lines.specs.Lines.{no_feed}

abbrev pub EndsIn : ℕ → List ℕ → Type 0
EndsIn b [] = ⊥
EndsIn b (x ∷ []) = x ≡ b
EndsIn b (x ∷ y ∷ xs) = EndsIn b (y ∷ xs)

-- a line feed ends a line, and a carriage return just before it is part of that end
pub data LineEnd (text end : List ℕ) : Type 0 where
  feed : end ≡ 10 ∷ [] → (EndsIn 13 text → ⊥) → LineEnd text end
  return_and_feed : end ≡ 13 ∷ 10 ∷ [] → LineEnd text end

-- the last line may end where the notes end
pub data Ended (text end below : List ℕ) : Type 0 where
  by_feed : LineEnd text end → Ended text end below
  by_nothing : 0 < length text → end ≡ [] → below ≡ [] → Ended text end below

-- a line, above what is below it: no line feed is in its text
pub record LineIs (text end below : List ℕ) : Type 0 where
  pub feedless : every no_feed text ≡ true
  pub ended : Ended text end below
