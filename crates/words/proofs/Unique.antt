-- Two results that keep the promise of splitting are equal: the count, the words that the first records of the table are, and
-- where in the notes each of them stands.
use Rattle.std.proofs.Common.{Result, Ok}
use mathlib.Core.Path.{◌≡◌, sym, ◌∙◌}
use mathlib.Core.List.{List}
use Prim.Native.Nat.{ℕ}
use Rattle.records.specs.Word.{Word}
use Rattle.records.specs.Cited.Table.{words_in}
use Rattle.words.specs.Cited.Split.{places_in, Split}
use Rattle.words.specs.declared.TooMany.{TooMany}

module _ (most : ℕ) (notes : List ℕ) (ws : List Word) (ps t u : List ℕ) (r s : Result ℕ TooMany) (a : Split most notes ws ps t r) (b : Split most notes ws ps u s) where
  pub count_unique : r ≡ s
  count_unique = a.count ∙ sym b.count

  pub split_unique : (n : ℕ) → r ≡ Ok n → (words_in notes n t ≡ words_in notes n u) × (places_in n t ≡ places_in n u)
  split_unique n e =
      let f = sym count_unique ∙ e in
      (a.words n e ∙ sym (b.words n f), a.places n e ∙ sym (b.places n f))
