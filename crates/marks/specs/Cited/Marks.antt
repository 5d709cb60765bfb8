-- Marks kept as the bits of 32-bit words, the lowest place first; and numbers spelled as the gaps between marks.
use Rattle.std.specs.Prelude.{Bool, true, false, List, [], ◌∷◌, ◌++◌, ℕ, zero, suc, ◌+◌, ◌-◌, ◌/◌, ◌%◌, ◌≤◌, eqb, replicate}

-- the marks of a word's n lowest places
unfoldable pub bits_of : ℕ → ℕ → List Bool
bits_of zero v = []
bits_of (suc n) v = eqb (v % 2) 1 ∷ bits_of n (v / 2)

unfoldable pub marks_in : List ℕ → List Bool
marks_in [] = []
marks_in (v ∷ vs) = bits_of 32 v ++ marks_in vs

-- how far the first mark is: 1 if it stands here, 0 if there is none
unfoldable pub to_mark : List Bool → ℕ
to_mark [] = 0
to_mark (b ∷ bs) = elim b [ true ↦ 1 | false ↦ elim (to_mark bs) [ zero ↦ 0 | suc n ↦ suc (suc n) ] ]

-- numbers, each of them at least 1, as the gaps up to marks
unfoldable pub spelled : List ℕ → List Bool
spelled [] = []
spelled (g ∷ gs) = replicate (g - 1) false ++ true ∷ spelled gs

unfoldable pub sum : List ℕ → ℕ
sum [] = 0
sum (g ∷ gs) = g + sum gs

abbrev pub Positive : List ℕ → Type 0
Positive [] = Unit {0}
Positive (g ∷ gs) = (1 ≤ g) × Positive gs
