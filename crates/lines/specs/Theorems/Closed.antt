-- A text that is empty or ends in a line feed: what follows it begins a line.
use Rattle.std.specs.Prelude.{◌≡◌, List, [], ◌∷◌, ℕ}

abbrev pub Closed : List ℕ → Type 0
Closed [] = Unit {0}
Closed (x ∷ []) = x ≡ 10
Closed (x ∷ y ∷ xs) = Closed (y ∷ xs)
