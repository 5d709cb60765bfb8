-- Words in order and each once: something before each, the word's own bytes, and a line feed at the end.
use Rattle.std.specs.Prelude.{◌≡◌, List, [], ◌∷◌, ◌++◌, ℕ, suc, length}
use Rattle.lists.specs.Theorems.All.{All}
use Rattle.records.specs.Word.{Word}
use Rattle.output.specs.Emission.{line_feed}

-- s₁ w₁ s₂ w₂ .. and a line feed
unfoldable pub laid_out : List (List ℕ) → List Word → List ℕ
laid_out befores [] = line_feed
laid_out [] (w ∷ ws) = w.text ++ laid_out [] ws
laid_out (s ∷ befores) (w ∷ ws) = s ++ (w.text ++ laid_out befores ws)

-- bytes that are the words in order, each once, after `first`, with a separator between every two neighbours
pub record InOrder (Separates : List ℕ → Type 0) (first : List ℕ) (ws : List Word) (bytes : List ℕ) : Type 0 where
  pub separators : List (List ℕ)
  pub one_less : length ws ≡ suc (length separators)
  pub each : All Separates separators
  pub laid : bytes ≡ laid_out (first ∷ separators) ws
