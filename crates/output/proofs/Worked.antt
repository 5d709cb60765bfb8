-- Bytes that are not the words in order, each once: what `InOrder` refuses.
use Rattle.std.proofs.Common.{None}
use mathlib.Core.Path.{◌≡◌, ap}
use mathlib.Core.Bool.{false}
use mathlib.Core.List.{List, [], ◌∷◌}
use Prim.Native.Nat.{ℕ, suc}
use native.Mathlib.Omega.{arith}
use lib.ListN.{length}
use Rattle.lists.specs.Theorems.All.{All}
use Rattle.records.specs.Word.{Word}
use Rattle.output.specs.Theorems.Order.{laid_out, InOrder}

abbrev letter : ℕ → Word
letter c = record { blanks = []; text = c ∷ []; width = 1; before = None; after = 0; new_line = false; ends_punct = false; sentence_start = false }

-- they begin otherwise
another_front : (S : List ℕ → Type 0) → InOrder S (62 ∷ []) (letter 97 ∷ []) (97 ∷ 10 ∷ []) → ⊥
unfolding laid_out
another_front S i = go i.separators i.one_less i.laid
  where
    go : (ss : List (List ℕ)) → 1 ≡ suc (length ss) → 97 ∷ 10 ∷ [] ≡ laid_out ((62 ∷ []) ∷ ss) (letter 97 ∷ []) → ⊥
    go [] h e = let n = ap length e in omega arith
    go (s ∷ ss) h e = omega arith

-- no line feed ends them
no_line_feed : (S : List ℕ → Type 0) → InOrder S [] (letter 97 ∷ []) (97 ∷ []) → ⊥
unfolding laid_out
no_line_feed S i = go i.separators i.one_less i.laid
  where
    go : (ss : List (List ℕ)) → 1 ≡ suc (length ss) → 97 ∷ [] ≡ laid_out ([] ∷ ss) (letter 97 ∷ []) → ⊥
    go [] h e = let n = ap length e in omega arith
    go (s ∷ ss) h e = omega arith

-- two words have a separator between them
nothing_separates : (bytes : List ℕ) → InOrder (λ s. ⊥) [] (letter 97 ∷ letter 98 ∷ []) bytes → ⊥
nothing_separates bytes i = go i.separators i.one_less i.each
  where
    go : (ss : List (List ℕ)) → 2 ≡ suc (length ss) → All (λ (s : List ℕ). ⊥) ss → ⊥
    go [] h a = omega arith
    go (s ∷ ss) h a = a.0
