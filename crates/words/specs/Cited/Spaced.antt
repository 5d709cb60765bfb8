-- Words of plain characters, spaces apart, and where their line's text ends.
use Rattle.std.specs.Prelude.{◌≡◌, Bool, true, false, not, ◌||◌, List, [], ◌++◌, ◌⊎◌, ℕ, ◌+◌, ◌-◌, ◌≤◌, ◌<◌, eqb, length, get_or, Some, None, Option}
use Rattle.std.proofs.Math.Seq.{slice}
use Rattle.lists.specs.Runs.{while}
use Rattle.text.specs.Characters.{is_blank}
use Rattle.text.specs.Cited.Places.{ink_glyphs}
use Rattle.options.specs.Opts.{Opts}
use Rattle.records.specs.Cited.Table.{words_in}
use Rattle.records.specs.declared.Word.{Word as Record}
use Rattle.words.specs.Words.{runs}
use Rattle.words.specs.Places.{places_from}
use Rattle.words.specs.Cited.Scan.{no_blanks, punct_code, Plain, glyphs_behind, word_at, words_from}
use Rattle.words.specs.Cited.Split.{places_in}
use Rattle.words.specs.declared.Blanks.{Blanks}
use Rattle.words.specs.declared.Ink.{Ink}
use Rattle.words.specs.declared.Spaced.{Spaced}

-- r is after the spaces at a place
pub record OverSpaces (s : List ℕ) (at r : ℕ) : Type 0 where
  pub on : at ≤ r
  pub within : r ≤ length s
  pub spaces : (i : ℕ) → at ≤ i → i < r → get_or s i 0 ≡ 32

-- b are the spaces before a word at a place: none before the first of a line
pub record SpacesBefore (s : List ℕ) (at : ℕ) (first : Bool) (b : Blanks) : Type 0 where
  pub over : OverSpaces s at b.end
  pub counts : b ≡ record { end = b.end; before = None; after = b.end - at }
  pub none : first ≡ true → b ≡ no_blanks at

-- the ink of a plain word
abbrev pub plain_ink : List ℕ → ℕ → ℕ → Ink
plain_ink s start end = record { end = end; width = end - start; punct = punct_code (get_or s (end - 1) 0) }

-- a word of plain characters, after which a space, a tab or a line feed stands, or nothing
pub record PlainWord (s : List ℕ) (start end : ℕ) : Type 0 where
  pub run : Plain s start end
  pub some : start < end
  pub ends : end < length s → ((eqb (get_or s end 0) 32 || eqb (get_or s end 0) 9) ≡ true) ⊎ (get_or s end 0 ≡ 10)

-- such a word at a place, after these spaces
pub record PlainBehind (s : List ℕ) (at : ℕ) (first : Bool) (b : Blanks) (end : ℕ) : Type 0 where
  pub gap : SpacesBefore s at first b
  pub word : PlainWord s b.end end

-- one space is at a place
abbrev pub one_blank : ℕ → Blanks
one_blank at = record { end = at + 1; before = None; after = 1 }

-- w is the record of such a word, after these spaces
pub record PlainNext (o : Opts) (first previous : Bool) (s : List ℕ) (at : ℕ) (w : Record) : Type 0 where
  pub gap : Blanks
  pub stop : ℕ
  pub plain : PlainBehind s at first gap stop
  pub is : w ≡ word_at o.uniform o.by_characters first previous at gap (plain_ink s gap.end stop)

-- the next word, if there is such a one
abbrev pub SpacedNext : Opts → Bool → Bool → List ℕ → ℕ → Option Record → Type 0
SpacedNext o first previous s at None = Unit {0}
SpacedNext o first previous s at (Some w) = PlainNext o first previous s at w

-- the text of the line that a place is in ends at another: at the text's end, or at a line feed, with the carriage return before it
pub record EndsAt (s : List ℕ) (from end : ℕ) : Type 0 where
  pub on : from ≤ end
  pub within : end ≤ length s
  pub feedless : (i : ℕ) → from ≤ i → i < end → get_or s i 0 ≡ 10 → ⊥
  pub returnless : (i : ℕ) → from ≤ i → i < end → get_or s i 0 ≡ 13 → get_or s (i + 1) 0 ≡ 10 → ⊥
  pub ends : end < length s → (get_or s end 0 ≡ 10) ⊎ ((get_or s end 0 ≡ 13) × (get_or s (end + 1) 0 ≡ 10))

-- r is how far the words of a line, from start up to end, are plain and spaces apart: they are in the table, with their places, and the rest is left
pub record SpacedTo (o : Opts) (mail : Bool) (notes : List ℕ) (start end n : ℕ) (t : List ℕ) (r : Spaced) (t' : List ℕ) : Type 0 where
  pub to : r.at ≤ end
  pub words : words_in notes r.count t' ++ words_from o mail r.first r.punct (glyphs_behind o.glue r.first (slice r.at end notes))
      ≡ words_in notes n t ++ words_from o mail (not mail) false (glyphs_behind o.glue (not mail) (slice start end notes))
  pub places : places_in r.count t' ++ places_from r.at (runs (glyphs_behind o.glue r.first (slice r.at end notes)))
      ≡ places_in n t ++ places_from start (runs (glyphs_behind o.glue (not mail) (slice start end notes)))
  pub ink : (mail ≡ false → while is_blank (ink_glyphs o.glue (slice start end notes)) ≡ []) → r.first ≡ true → while is_blank (ink_glyphs o.glue (slice r.at end notes)) ≡ []
