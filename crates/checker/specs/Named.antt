-- RULES 18.1: the line that is named of a digest that is not acceptable, the first that cannot be continued to an acceptable digest.
use Rattle.std.specs.Prelude.{true, false, List, [], ◌∷◌, ◌++◌, ℕ, zero, suc, ◌<◌, eqb}

-- how many lines of a text are ended: a line feed ends each
unfoldable pub feeds : List ℕ → ℕ
feeds [] = 0
feeds (x ∷ xs) = elim (eqb x 10) [ true ↦ suc (feeds xs) | false ↦ feeds xs ]

-- the first k lines of a text, with their line feeds
unfoldable pub first_lines : ℕ → List ℕ → List ℕ
first_lines zero xs = []
first_lines (suc k) [] = []
first_lines (suc k) (x ∷ xs) = elim (eqb x 10) [ true ↦ x ∷ first_lines k xs | false ↦ x ∷ first_lines (suc k) xs ]

-- line n of a digest, counted from 0, can be continued: it is there and ended, and an acceptable digest begins with the lines up to it
pub record Continued (Good : List ℕ → Type 0) (digest : List ℕ) (n : ℕ) : Type 0 where
  pub ended : n < feeds digest
  pub more : List ℕ
  pub good : Good (first_lines (suc n) digest ++ more)

-- Line n is the first that cannot be continued. After the last ended line of a digest stands a line that is not ended, or none: that one
-- cannot be continued, so there is always such a line. Where there is none, the digest is cut short, and n is the line past its end.
pub record Named (Good : List ℕ → Type 0) (digest : List ℕ) (n : ℕ) : Type 0 where
  pub refused : Good digest → ⊥
  pub before : (i : ℕ) → i < n → Continued Good digest i
  pub here : Continued Good digest n → ⊥
