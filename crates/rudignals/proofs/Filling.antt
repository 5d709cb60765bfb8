-- What the two indexed calls use: what is said at the end of an answer's number, the output, the records and the count.
use mathlib.Core.Path.{◌≡◌, refl, ap, ◌∙◌}
use mathlib.Core.List.{List, ◌++◌}
use Prim.Native.Nat.{ℕ}
use lib.ListN.{length, drop}
use Rattle.marks.specs.Cited.Marks.{marks_in}
use Rattle.index.specs.declared.Record.{Record}
use Rattle.index.specs.Cited.Lists.{no_record}
use Rattle.index.specs.Cited.Reading.{front, read_from}
use Rattle.indexer.specs.declared.Told.{Told}
use Rattle.lists.specs.Coded.{numbered}
use Rattle.indexer.specs.Answers.{Indexed, done, refused, full, room, index_coded, index_output_after, records_after, filled_after}
use Rattle.indexer.specs.Cited.Noting.{Marked, records_of}

-- an answer's records and those after them are the records that it leaves
records_left : (a : Indexed) (xs : List Record) → records_of a ++ drop (filled_after a) xs ≡ records_after a xs
unfolding records_after
records_left (done digest index) xs = refl
records_left (refused r) xs = refl
records_left (full pieces) xs = refl
records_left (room needed) xs = refl

-- what is said at the end of an answer: of its number, the output, the records and the count
module _ (answer : Indexed) (output : List ℕ) (index : List Record) where
  abbrev pub Left : ℕ → List ℕ → List Record → ℕ → Type 0
  Left r out' index' filled' = (r ≡ numbered (index_coded answer)) × (out' ≡ index_output_after answer output) × (index' ≡ records_after answer index) × (filled' ≡ filled_after answer)

  pub left : (out' : List ℕ) (filled' : ℕ) (ms : List ℕ) (t : Told) (index' : List Record) → Marked answer (length index) output out' filled' ms t → index' ≡ read_from (marks_in (front ms)) t.records no_record ++ drop t.records index → Left t.answer out' index' filled'
  left out' filled' ms t index' noted stored = (
    noted.answer,
    noted.output,
    stored ∙ ap (λ (rs : List Record). rs ++ drop t.records index) noted.read ∙ ap (λ (n : ℕ). records_of answer ++ drop n index) noted.count ∙ records_left answer index,
    noted.filled,
  )
