-- A line of output on a regular stretch: what goes on it, and that the next word breaks.
use mathlib.Core.Path.{◌≡◌, sym, ap, ◌∙◌}
use mathlib.Core.Bool.{Bool, true, false, not, ◌&&◌, or-true, or-false}
use mathlib.Core.Logic.{◌⊎◌, ⊎_elim}
use mathlib.Core.List.{List, [], ◌∷◌, ◌++◌, append_assoc, append-nil}
use Prim.Native.Nat.{ℕ, ◌+◌, ◌≤◌, ◌<◌}
use native.Mathlib.Omega.{arith}
use lib.ListN.{length, replicate}
use Rattle.lists.specs.Runs.{every}
use Rattle.lists.proofs.Runs.{every_end}
use Rattle.lists.proofs.Parts.{every_append, every_nil}
use Rattle.options.specs.Opts.{Opts}
use Rattle.records.specs.Word.{Word}
use Rattle.spacing.specs.declared.Setting.{Setting}
use Rattle.words.specs.Words.{line_words}
use Rattle.words.proofs.WordRuns.{runs_nil}
use Rattle.output.specs.Emission.{line_feed}
use Rattle.regular.specs.Cited.Regular.{is_space, not_space, columns, evenly, spelling, stretch_words, lastly, closed, opens, fresh_punct, added, quick_rest, quick_fresh}
use Rattle.regular.proofs.Stretch.{and_true, word_first}
use Rattle.regular.proofs.Rest.{plain_breaks, next_stays, next_breaks}
use Rattle.regular.proofs.Even.{EvenGap, even_first}
use Rattle.regular.proofs.Columns.{columns_append}
use Rattle.regular.proofs.Fronts.{InkFront, ink_front, lastly_append, opens_append, no_rest}
use Rattle.regular.proofs.Stay.{stays}

pub no_words : (o : Opts) (new_line previous : Bool) → stretch_words o new_line previous [] ≡ []
unfolding stretch_words line_words spelling
no_words o new_line previous = rw runs_nil

fresh_punct_law : (counts : Bool) (ink rest : List ℕ) → every not_space ink ≡ true → 0 < length ink → opens rest ≡ true
    → lastly (counts && lastly false ink) rest ≡ fresh_punct counts (ink ++ rest)
unfolding fresh_punct lastly opens
fresh_punct_law counts ink [] inked some next = rw (append-nil ink, inked, or-false counts)
fresh_punct_law counts ink (r ∷ rest) inked some next =
    rw (every_append not_space ink (r ∷ rest), inked, every_end not_space r rest (ap not next), or-true counts, lastly_append false ink (r ∷ rest))

module _ (o : Opts) (g : Setting) (indent : List ℕ) (same : o.uniform ≡ g.uniform) (more : List Word) where
  -- on a fresh line the blanks before a word and its marks do not matter
  fresh_word : (counts new_line previous : Bool) (column : ℕ) (sp ink rest : List ℕ) → every is_space sp ≡ true → every not_space ink ≡ true → 0 < length ink → opens rest ≡ true
      → quick_fresh g indent counts column (stretch_words o new_line previous (sp ++ (ink ++ rest)) ++ more)
      ≡ ink ++ quick_rest g indent (column + columns ink) (counts && lastly false ink) (stretch_words o false (lastly false ink) rest ++ more)
  unfolding quick_fresh
  fresh_word counts new_line previous column sp ink rest spaced inked some next = rw (word_first sp ink rest spaced inked some next o g.uniform new_line previous same)

  pub fresh_same : (counts new_line previous : Bool) (column : ℕ) (sp ink rest : List ℕ) → every is_space sp ≡ true → every not_space ink ≡ true → 0 < length ink → opens rest ≡ true
      → quick_fresh g indent counts column (stretch_words o new_line previous (sp ++ (ink ++ rest)) ++ more) ≡ quick_fresh g indent counts column (stretch_words o false false (ink ++ rest) ++ more)
  fresh_same counts new_line previous column sp ink rest spaced inked some next =
      fresh_word counts new_line previous column sp ink rest spaced inked some next ∙ sym (fresh_word counts false false column [] ink rest (every_nil is_space) inked some next)

  -- the next word of a line breaks
  pub breaks : (column : ℕ) (punct previous : Bool) (sp ink rest : List ℕ) → every is_space sp ≡ true → every not_space ink ≡ true → 0 < length ink → opens rest ≡ true
      → (g.uniform ≡ true → EvenGap previous sp) → g.width < column + length sp + columns ink
      → quick_rest g indent column punct (stretch_words o false previous (sp ++ (ink ++ rest)) ++ more) ≡ line_feed ++ (indent ++ quick_fresh g indent true g.indent (stretch_words o false false (ink ++ rest) ++ more))
  breaks column punct previous sp ink rest spaced inked some next even wide =
      let e = word_first sp ink rest spaced inked some next o g.uniform false previous same in
      ap (λ (ws : List Word). quick_rest g indent column punct (ws ++ more)) e ∙ plain_breaks g indent column punct previous sp ink spaced even _ wide
      ∙ ap (λ (l : List ℕ). line_feed ++ (indent ++ l)) (ap (λ (ws : List Word). quick_fresh g indent true g.indent (ws ++ more)) (sym e) ∙ fresh_same true false previous g.indent sp ink rest spaced inked some next)

  -- words that begin a line of output: as many as end by the width, or one
  pub fresh_stays : (counts new_line previous : Bool) (column : ℕ) (a ys : List ℕ) → opens a ≡ false → closed true a ≡ true → opens ys ≡ true → (column + columns a ≤ g.width) ⊎ (every not_space a ≡ true) → (g.uniform ≡ true → evenly 0 0 a ≡ true)
      → quick_fresh g indent counts column (stretch_words o new_line previous (a ++ ys) ++ more)
      ≡ a ++ quick_rest g indent (column + columns a) (fresh_punct counts a) (stretch_words o false (lastly false a) ys ++ more)
  unfolding lastly columns
  fresh_stays counts new_line previous column a ys begins ends next fits even =
      whole f.ink f.rest f.is f.inked (f.some begins) f.next f.end
    where
      f : InkFront a
      f = ink_front a ends

      behind : (ink rest : List ℕ) → a ≡ ink ++ rest → every not_space ink ≡ true → 0 < length ink → opens rest ≡ true → closed true rest ≡ true
          → quick_rest g indent (column + columns ink) (counts && lastly false ink) (stretch_words o false (lastly false ink) (rest ++ ys) ++ more)
          ≡ rest ++ quick_rest g indent (column + columns ink + columns rest) (lastly (counts && lastly false ink) rest) (stretch_words o false (lastly (lastly false ink) rest) ys ++ more)
      behind ink rest is inked some n end =
          ⊎_elim
          (λ (h : column + columns a ≤ g.width). stays o g indent same more ys next rest n end (column + columns ink) (counts && lastly false ink) (lastly false ink) (λ u. even_first ink rest (rw is at (even u)) inked some) (omega (arith, ap columns is, columns_append ink rest)))
          (λ (h : every not_space a ≡ true).
          let e : rest ≡ [] = no_rest rest n (and_true (every not_space ink) (every not_space rest) (sym (every_append not_space ink rest) ∙ rw is at h)).1 in
          let z : column + columns ink + 0 ≡ column + columns ink = omega arith in
          rw (e, z))
          fits

      whole : (ink rest : List ℕ) → a ≡ ink ++ rest → every not_space ink ≡ true → 0 < length ink → opens rest ≡ true → closed true rest ≡ true
          → quick_fresh g indent counts column (stretch_words o new_line previous (a ++ ys) ++ more)
          ≡ a ++ quick_rest g indent (column + columns a) (fresh_punct counts a) (stretch_words o false (lastly false a) ys ++ more)
      whole ink rest is inked some n end =
          let z : column + columns (ink ++ rest) ≡ column + columns ink + columns rest = omega (arith, columns_append ink rest) in
          rw (is, append_assoc ink rest ys, append_assoc, z, ← fresh_punct_law counts ink rest inked some n, lastly_append false ink rest)
          (fresh_word counts new_line previous column [] ink (rest ++ ys) (every_nil is_space) inked some (opens_append rest ys n next) ∙ ap (λ (l : List ℕ). ink ++ l) (behind ink rest is inked some n end))

  -- the same after a line of output that has begun, of the first words of the next line
  pub next_stays_on : (column : ℕ) (punct : Bool) (a ys : List ℕ) → opens a ≡ false → closed true a ≡ true → opens ys ≡ true → column + added punct + columns a ≤ g.width → (g.uniform ≡ true → evenly 0 0 a ≡ true)
      → quick_rest g indent column punct (stretch_words o true false (a ++ ys) ++ more)
      ≡ replicate (added punct) 32 ++ (a ++ quick_rest g indent (column + added punct + columns a) (lastly false a) (stretch_words o false (lastly false a) ys ++ more))
  next_stays_on column punct a ys begins ends next fits even = whole f.ink f.rest f.is f.inked (f.some begins) f.next f.end
    where
      f : InkFront a
      f = ink_front a ends

      whole : (ink rest : List ℕ) → a ≡ ink ++ rest → every not_space ink ≡ true → 0 < length ink → opens rest ≡ true → closed true rest ≡ true
          → quick_rest g indent column punct (stretch_words o true false (a ++ ys) ++ more)
          ≡ replicate (added punct) 32 ++ (a ++ quick_rest g indent (column + added punct + columns a) (lastly false a) (stretch_words o false (lastly false a) ys ++ more))
      whole ink rest is inked some n end =
          let l : columns a ≡ columns ink + columns rest = ap columns is ∙ columns_append ink rest in
          let z : column + added punct + columns (ink ++ rest) ≡ column + added punct + columns ink + columns rest = omega (arith, columns_append ink rest) in
          rw (is, append_assoc ink rest ys, append_assoc, z, lastly_append false ink rest)
          (ap (λ (ws : List Word). quick_rest g indent column punct (ws ++ more)) (word_first [] ink (rest ++ ys) (every_nil is_space) inked some (opens_append rest ys n next) o g.uniform true false same)
          ∙ next_stays g indent column punct ink _ (omega arith)
          ∙ ap (λ (l : List ℕ). replicate (added punct) 32 ++ (ink ++ l)) (stays o g indent same more ys next rest n end (column + added punct + columns ink) (lastly false ink) (lastly false ink) (λ u. even_first ink rest (rw is at (even u)) inked some) (omega arith)))

  pub next_breaks_off : (column : ℕ) (punct : Bool) (ink rest : List ℕ) → every not_space ink ≡ true → 0 < length ink → opens rest ≡ true → g.width < column + added punct + columns ink
      → quick_rest g indent column punct (stretch_words o true false (ink ++ rest) ++ more) ≡ line_feed ++ (indent ++ quick_fresh g indent true g.indent (stretch_words o false false (ink ++ rest) ++ more))
  next_breaks_off column punct ink rest inked some next wide =
      let e = word_first [] ink rest (every_nil is_space) inked some next o g.uniform true false same in
      ap (λ (ws : List Word). quick_rest g indent column punct (ws ++ more)) e ∙ next_breaks g indent column punct ink _ wide
      ∙ ap (λ (l : List ℕ). line_feed ++ (indent ++ l)) (ap (λ (ws : List Word). quick_fresh g indent true g.indent (ws ++ more)) (sym e) ∙ fresh_same true true false g.indent [] ink rest (every_nil is_space) inked some next)
