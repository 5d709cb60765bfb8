-- What is taken of a line's words, as many as there is room for.
use Rattle.std.specs.Prelude.{◌≡◌, Bool, true, false, List, [], ◌++◌, ℕ, ◌+◌, ◌≤◌, ◌<◌, length}
use Rattle.std.proofs.Math.Seq.{slice}
use Rattle.lists.specs.Runs.{while}
use Rattle.text.specs.Characters.{is_blank}
use Rattle.text.specs.Cited.Places.{ink_glyphs}
use Rattle.options.specs.Opts.{Opts}
use Rattle.records.specs.Word.{Word}
use Rattle.records.specs.Cited.Table.{words_in}
use Rattle.words.specs.Words.{runs}
use Rattle.words.specs.Places.{places_from}
use Rattle.words.specs.Cited.Scan.{glyphs_behind, words_from}
use Rattle.words.specs.Cited.Split.{Kept, places_in}
use Rattle.words.specs.declared.Taken.{Taken}

-- the words of a line from a place up to its end: whether the next is its first, and whether the one before it ends in punctuation
abbrev pub words_between : Opts → Bool → Bool → Bool → List ℕ → ℕ → ℕ → List Word
words_between o mail first punct notes from end = words_from o mail first punct (glyphs_behind o.glue first (slice from end notes))

-- r is how far the words of a line, from start up to end, are in the table, with their places, after the n that it had; the rest is left,
-- and there is one if r says so. As many were taken then as there is room for.
pub record TakenTo (most : ℕ) (o : Opts) (mail : Bool) (notes : List ℕ) (start end : ℕ) (head punct : Bool) (n : ℕ) (t : List ℕ) (r : Taken) (t' : List ℕ) : Type 0 where
  pub on : start ≤ r.at
  pub to : r.at ≤ end
  pub gained : r.count + start ≤ n + r.at
  pub kept : Kept most (length notes) r.count t'
  pub words : words_in notes r.count t' ++ words_between o mail r.first r.punct notes r.at end ≡ words_in notes n t ++ words_between o mail head punct notes start end
  pub places : places_in r.count t' ++ places_from r.at (runs (glyphs_behind o.glue r.first (slice r.at end notes))) ≡ places_in n t ++ places_from start (runs (glyphs_behind o.glue head (slice start end notes)))
  pub ink : r.first ≡ true → while is_blank (ink_glyphs o.glue (slice r.at end notes)) ≡ []
  pub done : r.more ≡ false → (words_between o mail r.first r.punct notes r.at end ≡ []) × (places_from r.at (runs (glyphs_behind o.glue r.first (slice r.at end notes))) ≡ [])
  pub left : r.more ≡ true → (most ≤ r.count) × (0 < length (words_between o mail r.first r.punct notes r.at end))
