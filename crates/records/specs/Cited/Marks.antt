-- The marks of a word table, one bit more of each record: mark i says whether a new line starts with word i. The first word's is not read.
use Rattle.std.specs.Prelude.{Bool, cond, List, [], ◌∷◌, ◌++◌, ◌≡◌, ℕ, zero, suc, ◌+◌, ◌*◌, ◌/◌, ◌%◌, ◌≤◌, ◌<◌, eqb, length, get_or, set}
use Rattle.std.proofs.Math.Seq.{slice}
use Rattle.records.specs.Cited.Table.{number_in, word_in}

-- the mark of record i, and the table with it set
abbrev pub mark_in : List ℕ → ℕ → Bool
mark_in t i = eqb (number_in t i 6 / 8 % 2) 1

unfoldable pub with_mark : List ℕ → ℕ → Bool → List ℕ
with_mark t i b = set t (i * 7 + 6) (number_in t i 6 % 8 + cond b 8 0)

-- marks set one after the other, from record i on
unfoldable pub with_marks : List ℕ → ℕ → List Bool → List ℕ
with_marks t i [] = t
with_marks t i (b ∷ bs) = with_marks (with_mark t i b) (i + 1) bs

-- the marks of the first n records, in order
unfoldable pub marks_in : ℕ → List ℕ → List Bool
marks_in zero t = []
marks_in (suc n) t = marks_in n t ++ (mark_in t n ∷ [])

-- what they say of the words after the first
abbrev pub breaks_of : ℕ → List ℕ → List Bool
breaks_of n t = slice 1 n (marks_in n t)

-- what a breaker of n words leaves in a table: the breaks as marks of the words after the first; all else is as it was
pub record MarkedBy (n : ℕ) (t : List ℕ) (breaks : List Bool) (t' : List ℕ) : Type 0 where
  pub is : t' ≡ with_marks t 1 breaks
  pub says : breaks_of n t' ≡ breaks
  pub words : (j : ℕ) → word_in t' j ≡ word_in t j
  pub sized : length t' ≡ length t

-- the marks of the first n records say something new; their words, and all that lies after them, are as they were
pub record MarkedUpTo (n : ℕ) (old new : List ℕ) (says : ℕ → Bool) : Type 0 where
  pub sized : length new ≡ length old
  pub marks : (j : ℕ) → j < n → mark_in new j ≡ says j
  pub words : (j : ℕ) → j < n → word_in new j ≡ word_in old j
  pub beyond : (k : ℕ) → n * 7 ≤ k → get_or new k 0 ≡ get_or old k 0
