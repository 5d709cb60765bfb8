-- Words that are in the notes just as they are to be written.
use Rattle.std.specs.Prelude.{Bool, List, ◌++◌, ◌≡◌, ℕ, ◌≤◌, length}
use Rattle.std.proofs.Math.Seq.{slice}
use Rattle.records.specs.declared.Word.{Word as Record}
use Rattle.records.specs.Word.{meaning}
use Rattle.output.specs.declared.Layout.{Layout}
use Rattle.output.specs.declared.Run.{Run}
use Rattle.output.specs.Cited.Writers.{placed, emitted_from}

-- a word, with what goes before it, is the notes from a place on
pub record Joins (notes : List ℕ) (w : Record) (fresh : Bool) (added at : ℕ) : Type 0 where
  pub order : at ≤ w.end
  pub is : (indent : List ℕ) → placed fresh added indent (meaning notes w) ≡ slice at w.end notes

-- the words from i on, up to where the run ends, are the notes from a place on
pub record Runs (notes table : List ℕ) (n : ℕ) (l : Layout) (at : ℕ) (punct : Bool) (i : ℕ) (r : Run) : Type 0 where
  pub on : i ≤ r.next
  pub few : r.next ≤ n
  pub order : at ≤ r.end
  pub within : r.end ≤ length notes
  pub is : emitted_from notes table n l punct i ≡ slice at r.end notes ++ emitted_from notes table n l r.punct r.next
