-- What splitting promises: the table that holds the words.
use Rattle.std.specs.Prelude.{◌≡◌, List, map, ℕ, ◌≤◌, ◌<◌, length, Ok, Err, Result}
use Rattle.records.specs.Word.{Word}
use Rattle.records.specs.Cited.Table.{Holds, word_in, records_of, words_in, AllWithin}
use Rattle.records.specs.declared.Word.{Word as Record}
use Rattle.words.specs.Cited.Places.{counted}
use Rattle.words.specs.declared.TooMany.{TooMany}

-- the first n records of a table, which has room for `most`, are words that lie in a text of a size
pub record Kept (most size n : ℕ) (t : List ℕ) : Type 0 where
  pub few : n ≤ most
  pub held : Holds most t
  pub within : AllWithin size n t
  pub narrow : (i : ℕ) → i < n → (word_in t i).width ≤ size

-- the places of the first n records
unfoldable pub places_in : ℕ → List ℕ → List ℕ
places_in n t = map (λ (w : Record). w.start) (records_of n t)

-- the words are in the table, with their places in the text, or there are more of them than `most`; then it is scratch, and so is what is after the words
abbrev pub WordsFilled : ℕ → List ℕ → List Word → List ℕ → List ℕ → Result ℕ TooMany → Type 0
WordsFilled most notes ws ps t (Ok n) = (words_in notes n t ≡ ws) × (places_in n t ≡ ps) × Kept most (length notes) n t
WordsFilled most notes ws ps t (Err over) = most < length ws

-- what splitting a paragraph into words answers: their count, and the table with them. A word's bytes and its place are fixed, and with
-- them its end and where the blanks before it begin.
pub record Split (most : ℕ) (notes : List ℕ) (ws : List Word) (ps : List ℕ) (t : List ℕ) (r : Result ℕ TooMany) : Type 0 where
  pub count : r ≡ counted most ws
  pub words : (n : ℕ) → r ≡ Ok n → words_in notes n t ≡ ws
  pub places : (n : ℕ) → r ≡ Ok n → places_in n t ≡ ps
  pub kept : (n : ℕ) → r ≡ Ok n → Kept most (length notes) n t
