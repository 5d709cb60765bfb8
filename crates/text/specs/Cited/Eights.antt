-- Eight bytes as one number, so that one sum tests them all.
use Rattle.std.specs.Prelude.{List, [], ◌∷◌, ℕ, ◌+◌, ◌*◌, get_or}

-- bytes as one number, the first its least digit
unfoldable pub as_number : List ℕ → ℕ
as_number [] = 0
as_number (b ∷ bs) = b + 256 * as_number bs

-- the eight bytes at a place
abbrev pub eight_at : List ℕ → ℕ → List ℕ
eight_at s i =
    get_or s i 0 ∷ get_or s (i + 1) 0 ∷ get_or s (i + 2) 0 ∷ get_or s (i + 3) 0 ∷ get_or s (i + 4) 0 ∷ get_or s (i + 5) 0 ∷ get_or s (i + 6) 0 ∷ get_or s (i + 7) 0 ∷ []
