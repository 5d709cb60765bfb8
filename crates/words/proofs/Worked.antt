-- Words that do not stand in the notes: what `Ascends`, `Stands` and `WordsStand` refuse.
use Rattle.std.proofs.Common.{None}
use mathlib.Core.Path.{◌≡◌}
use mathlib.Core.Bool.{Bool, false}
use mathlib.Core.List.{List, [], ◌∷◌, map}
use Prim.Native.Nat.{ℕ}
use native.Mathlib.Omega.{arith}
use Rattle.lists.specs.Theorems.All.{◌∈◌}
use Rattle.lists.proofs.All.{all_at}
use Rattle.options.specs.Opts.{Opts}
use Rattle.lines.specs.Lines.{Line}
use Rattle.pieces.specs.Pieces.{Paragraph}
use Rattle.words.specs.Words.{words_of}
use Rattle.words.specs.Places.{Standing, words_standing}
use Rattle.words.specs.Theorems.Standing.{Ascends, Stands, WordsStand}

abbrev letter_at : ℕ → Standing
letter_at place = record { place = place; word = record { blanks = []; text = 97 ∷ []; width = 1; before = None; after = 0; new_line = false; ends_punct = false; sentence_start = false } }

-- no words, past the end; a word before the place from which they stand
ends_too_late : Ascends 5 [] 4 → ⊥
ends_too_late a = omega (arith, a)

begins_too_early : Ascends 5 (letter_at 4 ∷ []) 9 → ⊥
begins_too_early a = omega (arith, a.0)

-- `a` is at another place of `ab`
another_place : (glue : Bool) → Stands glue (97 ∷ 98 ∷ []) 1 (97 ∷ []) → ⊥
another_place glue s = let e = s.is in let z : ◌≡◌ {A = ℕ} 98 97 = cc in omega arith

-- each word stands so, and they are the paragraph's
each_stands : (o : Opts) (notes : List ℕ) (at : ℕ) (ls : List Line) (p : Paragraph) → WordsStand o notes at ls p → (s : Standing) → s ∈ words_standing o at ls p
    → Stands o.glue notes s.place s.word.text
each_stands o notes at ls p w s m = all_at (λ (t : Standing). Stands o.glue notes t.place t.word.text) w.each m

they_are_its_words : (o : Opts) (notes : List ℕ) (at : ℕ) (ls : List Line) (p : Paragraph) → WordsStand o notes at ls p
    → map (λ (s : Standing). s.word) (words_standing o at ls p) ≡ words_of o p
they_are_its_words o notes at ls p w = w.words
