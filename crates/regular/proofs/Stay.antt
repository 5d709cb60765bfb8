-- On a regular stretch every word that ends by the width stays, and what is written for those words is the stretch's bytes as they stand.
use mathlib.Core.Path.{◌≡◌, ap, ◌∙◌}
use mathlib.Core.Bool.{Bool, true, false}
use mathlib.Core.List.{List, [], ◌∷◌, ◌++◌}
use Prim.Native.Nat.{ℕ, zero, suc, ◌+◌, ◌≤◌, ◌<◌}
use native.Mathlib.Omega.{arith}
use lib.ListN.{length, length-append}
use Rattle.lists.specs.Runs.{every}
use Rattle.lists.proofs.Joins.{append_inner}
use Rattle.options.specs.Opts.{Opts}
use Rattle.records.specs.Word.{Word}
use Rattle.spacing.specs.declared.Setting.{Setting}
use Rattle.regular.specs.Cited.Regular.{is_space, not_space, columns, stretch_words, lastly, closed, opens, quick_rest}
use Rattle.regular.proofs.Stretch.{word_first}
use Rattle.regular.proofs.Rest.{plain_stays}
use Rattle.regular.proofs.Even.{EvenGap, Evenly, even_gap, even_word}
use Rattle.regular.proofs.Columns.{columns_append, columns_spaces}
use Rattle.regular.proofs.Fronts.{front, front_spaces, lastly_append, lastly_some, closed_some, opens_append}

module _ (o : Opts) (g : Setting) (indent : List ℕ) (same : o.uniform ≡ g.uniform) (more : List Word) where
  -- the punctuation after a word and what follows it
  lastly_word : (x : Bool) (sp ink rest : List ℕ) → 0 < length ink → lastly x (sp ++ (ink ++ rest)) ≡ lastly (lastly false ink) rest
  lastly_word x sp ink rest some = rw (lastly_append x sp (ink ++ rest), lastly_append (lastly x sp) ink rest, lastly_some (lastly x sp) false ink some)

  -- a word's step and the rest of a stretch make the stretch
  stay_whole : (a sp ink rest ys : List ℕ) (column : ℕ) (punct previous : Bool) → a ≡ sp ++ (ink ++ rest) → every is_space sp ≡ true → 0 < length ink
      → quick_rest g indent column punct (stretch_words o false previous (sp ++ (ink ++ (rest ++ ys))) ++ more)
      ≡ sp ++ (ink ++ quick_rest g indent (column + length sp + columns ink) (lastly false ink) (stretch_words o false (lastly false ink) (rest ++ ys) ++ more))
      → quick_rest g indent (column + length sp + columns ink) (lastly false ink) (stretch_words o false (lastly false ink) (rest ++ ys) ++ more)
      ≡ rest ++ quick_rest g indent (column + length sp + columns ink + columns rest) (lastly (lastly false ink) rest) (stretch_words o false (lastly (lastly false ink) rest) ys ++ more)
      → quick_rest g indent column punct (stretch_words o false previous (a ++ ys) ++ more)
      ≡ a ++ quick_rest g indent (column + columns a) (lastly punct a) (stretch_words o false (lastly previous a) ys ++ more)
  stay_whole a sp ink rest ys column punct previous is spaced some step ih =
      let n : column + columns (sp ++ (ink ++ rest)) ≡ column + length sp + columns ink + columns rest = omega (arith, columns_append sp (ink ++ rest), columns_append ink rest, columns_spaces sp spaced) in
      rw (is, n, lastly_word punct sp ink rest some, lastly_word previous sp ink rest some, append_inner sp ink rest ys, append_inner) (step ∙ ap (λ (l : List ℕ). sp ++ (ink ++ l)) ih)

  -- one word, and the stretch after it
  stay_step : (sp ink rest ys : List ℕ) → every is_space sp ≡ true → every not_space ink ≡ true → 0 < length ink → opens (rest ++ ys) ≡ true
      → (column : ℕ) (punct previous : Bool) → (g.uniform ≡ true → EvenGap previous sp) → column + length sp + columns ink ≤ g.width
      → quick_rest g indent column punct (stretch_words o false previous (sp ++ (ink ++ (rest ++ ys))) ++ more)
      ≡ sp ++ (ink ++ quick_rest g indent (column + length sp + columns ink) (lastly false ink) (stretch_words o false (lastly false ink) (rest ++ ys) ++ more))
  stay_step sp ink rest ys spaced inked some next column punct previous even fits =
      ap (λ (ws : List Word). quick_rest g indent column punct (ws ++ more)) (word_first sp ink (rest ++ ys) spaced inked some next o g.uniform false previous same)
      ∙ plain_stays g indent column punct previous sp ink spaced even _ fits

  -- the bytes a, that end in a word, and what stands on the line after them
  stays_upto : (ys : List ℕ) → opens ys ≡ true → (k : ℕ) (a : List ℕ) → length a ≤ k → opens a ≡ true → closed true a ≡ true → (column : ℕ) (punct previous : Bool) → (g.uniform ≡ true → Evenly previous a) → column + columns a ≤ g.width
      → quick_rest g indent column punct (stretch_words o false previous (a ++ ys) ++ more)
      ≡ a ++ quick_rest g indent (column + columns a) (lastly punct a) (stretch_words o false (lastly previous a) ys ++ more)
  unfolding lastly columns
  stays_upto ys next zero [] l start h column punct previous even fits = let e : column + 0 ≡ column = omega arith in rw e
  stays_upto ys next (suc k) [] l start h column punct previous even fits = let e : column + 0 ≡ column = omega arith in rw e
  stays_upto ys next zero (b ∷ a) l start h column punct previous even fits = absurd (omega arith)
  stays_upto ys next (suc k) (b ∷ a) l start h column punct previous even fits =
      let f = front (b ∷ a) (closed_some false true b a ∙ h) in
      let n : suc (length a) ≡ length f.spaces + (length f.ink + length f.rest) = ap length f.is ∙ simp length-append in
      let m : columns (b ∷ a) ≡ length f.spaces + columns f.ink + columns f.rest =
      ap columns f.is ∙ (let e : columns (f.spaces ++ (f.ink ++ f.rest)) ≡ length f.spaces + columns f.ink + columns f.rest = omega (arith, columns_append f.spaces (f.ink ++ f.rest), columns_append f.ink f.rest, columns_spaces f.spaces f.spaced) in e) in
      let some = f.some in
      let gaps : g.uniform ≡ true → Evenly previous (f.spaces ++ (f.ink ++ f.rest)) = λ u. rw f.is at (even u) in
      let ih = stays_upto ys next k f.rest (omega arith) f.next f.end (column + length f.spaces + columns f.ink) (lastly false f.ink) (lastly false f.ink) (λ u. even_word previous f.spaces f.ink f.rest (gaps u) f.inked some) (omega arith) in
      stay_whole (b ∷ a) f.spaces f.ink f.rest ys column punct previous f.is f.spaced some
      (stay_step f.spaces f.ink f.rest ys f.spaced f.inked some (opens_append f.rest ys f.next next) column punct previous (λ u. even_gap previous f.spaces (f.ink ++ f.rest) (gaps u) f.spaced (front_spaces (b ∷ a) f start)) (omega arith)) ih

  pub stays : (ys : List ℕ) → opens ys ≡ true → (a : List ℕ) → opens a ≡ true → closed true a ≡ true → (column : ℕ) (punct previous : Bool) → (g.uniform ≡ true → Evenly previous a) → column + columns a ≤ g.width
      → quick_rest g indent column punct (stretch_words o false previous (a ++ ys) ++ more)
      ≡ a ++ quick_rest g indent (column + columns a) (lastly punct a) (stretch_words o false (lastly previous a) ys ++ more)
  stays ys next a start h = stays_upto ys next (length a) a (omega arith) start h
