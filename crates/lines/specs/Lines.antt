-- RULES 4.5: lines end at a line feed; a carriage return just before it goes too. A last line without a
-- line feed counts and keeps its carriage return.
use Rattle.std.specs.Prelude.{Bool, cond, not, List, [], ◌∷◌, ℕ, suc, ltb, eqb, length, take}
use Rattle.lists.specs.Walk.{each}
use Rattle.lists.specs.Runs.{while}

-- a line: its bytes with the line end, and its text without
pub record Line : Type 0 where
  pub raw : List ℕ
  pub text : List ℕ

abbrev pub no_feed : ℕ → Bool
no_feed b = not (eqb b 10)

-- the bytes before the first line feed
unfoldable pub body : List ℕ → List ℕ
body xs = while no_feed xs

unfoldable pub without_return : List ℕ → List ℕ
without_return [] = []
without_return (x ∷ []) = cond (eqb x 13) [] (x ∷ [])
without_return (x ∷ y ∷ xs) = x ∷ without_return (y ∷ xs)

-- the first line: a line feed is after its body, or the text ends there
unfoldable pub first_line : List ℕ → Line
first_line xs =
    let b = body xs in
    record { raw = take (suc (length b)) xs; text = cond (ltb (length b) (length xs)) (without_return b) b }

unfoldable pub lines_of : List ℕ → List Line
lines_of = each (λ xs. length (body xs)) first_line
