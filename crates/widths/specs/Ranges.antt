-- Ranges of numbers, each with a width: the width of a number by them, and the rule that they ascend and never overlap.
use Rattle.std.specs.Prelude.{Bool, true, false, ◌&&◌, List, [], ◌∷◌, ℕ, suc, ltb, leb}

-- from the first to the last, and the width of each
pub data Range : Type 0 where
  span : ℕ → ℕ → ℕ → Range

-- that of the range that holds c; 1 where none does. The search ends at the first range past c: those after it are past it too
unfoldable pub width_in : List Range → ℕ → ℕ
width_in [] c = 1
width_in (span a b w ∷ rs) c = elim (ltb c a) [ true ↦ 1 | false ↦ elim (leb c b) [ true ↦ w | false ↦ width_in rs c ] ]

-- no range starts before n, none is empty, and each is followed by ranges past its end
unfoldable pub ascending : ℕ → List Range → Bool
ascending n [] = true
ascending n (span a b w ∷ rs) = leb n a && (leb a b && ascending (suc b) rs)
