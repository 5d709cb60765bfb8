-- The word table: records of seven numbers each. What it holds as records, and as words of the notes.
use Rattle.std.specs.Prelude.{cond, List, [], ◌∷◌, ◌++◌, map, ◌≡◌, ℕ, zero, suc, ◌+◌, ◌-◌, ◌*◌, ◌/◌, ◌%◌, ◌^◌, ◌≤◌, ◌<◌, eqb, length, get_or, set, Option, Some, None}
use Rattle.std.proofs.lemmas.List.Edits.{sets}
use Rattle.records.specs.declared.Word.{Word as Record}
use Rattle.records.specs.Word.{Word, meaning}

-- the count before a tab as a number: 0 is absent
abbrev pub before_number : Option ℕ → ℕ
before_number None = 0
before_number (Some n) = n + 1

abbrev pub before_of : ℕ → Option ℕ
before_of n = cond (eqb n 0) None (Some (n - 1))

-- the three marks as one number of three bits
abbrev pub marks_of : Record → ℕ
marks_of w = cond w.first 1 0 + cond w.punct 2 0 + cond w.sentence 4 0

-- a table has room for n records, and so for record i
abbrev pub Holds : ℕ → List ℕ → Type 0
Holds n t = n * 7 ≤ length t

abbrev pub Room : ℕ → List ℕ → Type 0
Room i t = i * 7 + 7 ≤ length t

-- number j of record i of a table
abbrev pub number_in : List ℕ → ℕ → ℕ → ℕ
number_in t i j = get_or t (i * 7 + j) 0

-- record i, put together
unfoldable pub word_in : List ℕ → ℕ → Record
word_in t i = record {
  from = number_in t i 0;
  start = number_in t i 1;
  end = number_in t i 2;
  width = number_in t i 3;
  before = before_of (number_in t i 4);
  after = number_in t i 5;
  first = eqb (number_in t i 6 % 2) 1;
  punct = eqb (number_in t i 6 / 2 % 2) 1;
  sentence = eqb (number_in t i 6 / 4 % 2) 1;
}

-- the table with w taken apart into record i
unfoldable pub word_numbers : Record → List ℕ
word_numbers w = w.from ∷ w.start ∷ w.end ∷ w.width ∷ before_number w.before ∷ w.after ∷ marks_of w ∷ []

unfoldable pub with_word : List ℕ → ℕ → Record → List ℕ
with_word t i w = sets t (i * 7) (word_numbers w)

-- seven numbers stored one by one
abbrev pub stored : List ℕ → ℕ → ℕ → ℕ → ℕ → ℕ → ℕ → ℕ → ℕ → List ℕ
stored t k a b c d e f g = set (set (set (set (set (set (set t k a) (k + 1) b) (k + 2) c) (k + 3) d) (k + 4) e) (k + 5) f) (k + 6) g

-- the first n records, in order, and the words they mean
unfoldable pub records_of : ℕ → List ℕ → List Record
records_of zero t = []
records_of (suc n) t = records_of n t ++ (word_in t n ∷ [])

unfoldable pub words_in : List ℕ → ℕ → List ℕ → List Word
words_in notes n t = map (meaning notes) (records_of n t)

-- a record whose numbers fit the table
pub record Small (w : Record) : Type 0 where
  pub from : w.from < 2 ^ 32
  pub start : w.start < 2 ^ 32
  pub end : w.end < 2 ^ 32
  pub width : w.width < 2 ^ 32
  pub before : before_number w.before < 2 ^ 32
  pub after : w.after < 2 ^ 32

-- what reading record i of a table gives
pub record Got (t : List ℕ) (i : ℕ) (w : Record) : Type 0 where
  pub is : w ≡ word_in t i
  pub small : Small w

-- a record's places lie in a text of a length, in order
pub record Within (size : ℕ) (w : Record) : Type 0 where
  pub gap : w.from ≤ w.start
  pub text : w.start ≤ w.end
  pub end : w.end ≤ size

-- so do those of the first n records
abbrev pub AllWithin : ℕ → ℕ → List ℕ → Type 0
AllWithin size n t = (i : ℕ) → i < n → Within size (word_in t i)
