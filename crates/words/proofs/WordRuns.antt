-- The words of a line, run by run; and the bytes of a run that is at a place.
use mathlib.Core.Path.{◌≡◌, refl, sym, ap, ◌∙◌}
use mathlib.Core.Bool.{Bool, true, false}
use mathlib.Core.List.{List, [], ◌∷◌, ◌++◌}
use Prim.Native.Nat.{ℕ, suc, ◌+◌, ◌-◌, ◌<◌}
use native.Mathlib.Omega.{arith}
use lib.ListN.{length, take, drop, length-append}
use lib.Seq.{slice, take_at, drop-drop}
use Rattle.lists.specs.Runs.{while, behind, joined}
use Rattle.lists.proofs.Walk.{each_nil, each_step}
use Rattle.lists.proofs.Runs.{while_more}
use Rattle.lists.proofs.Parts.{while_behind, joined_append}
use Rattle.lists.proofs.RunParts.{drop_while, behind_fails}
use Rattle.lists.proofs.Slices.{slice_is}
use Rattle.text.specs.Characters.{Glyph, characters, is_blank, extent}
use Rattle.text.specs.Cited.Places.{ink_glyphs}
use Rattle.text.proofs.Glyphs.{characters_joined}
use Rattle.text.proofs.Glue.{settle_joined}
use Rattle.text.proofs.Edges.{glyphs_joined}
use Rattle.options.specs.Opts.{Opts}
use Rattle.records.specs.Word.{Word}
use Rattle.words.specs.Words.{Run, is_ink, run_of, runs, glyph_bytes, bytes_of, punct_at_end, counting, word_of, line_words, mail_word, mail_words}
use Rattle.words.specs.Places.{places_from}
use Rattle.words.specs.Cited.Scan.{glyphs_behind, words_from}

-- ---- bytes

pub extent_bytes : (gs : List Glyph) → extent gs ≡ length (bytes_of gs)
unfolding extent bytes_of joined
extent_bytes [] = refl
extent_bytes (g ∷ gs) = rw (length-append, ← extent_bytes gs)

-- the glyphs of a text have its bytes
pub behind_joined : (glue ink : Bool) (xs : List ℕ) → joined glyph_bytes (glyphs_behind glue ink xs) ≡ xs
unfolding ink_glyphs
behind_joined glue true xs = settle_joined glue true (characters xs) ∙ characters_joined xs
behind_joined glue false xs = glyphs_joined glue xs

-- those of the run at a place stand there up to its end
pub run_bytes : (test : Glyph → Bool) (gs : List Glyph) (s : List ℕ) (at end : ℕ) → joined glyph_bytes gs ≡ drop at s → end ≡ at + extent (while test gs)
    → bytes_of (while test gs) ≡ slice at end s
unfolding bytes_of
run_bytes test gs s at end j e =
    let n = extent (while test gs) in
    let whole : joined glyph_bytes (while test gs) ++ joined glyph_bytes (behind test gs) ≡ drop at s =
    sym (joined_append glyph_bytes (while test gs) (behind test gs)) ∙ ap (joined glyph_bytes) (while_behind test gs) ∙ j in
    sym (take_at (joined glyph_bytes (while test gs)) (joined glyph_bytes (behind test gs)) n (sym (extent_bytes (while test gs))))
    ∙ ap (take n) whole ∙ sym (slice_is at n s) ∙ ap (λ (k : ℕ). slice at k s) (sym e)

-- ---- words

pub runs_nil : runs [] ≡ []
unfolding runs
runs_nil = each_nil _ run_of

runs_step : (gs : List Glyph) → 0 < length gs
    → runs gs ≡ run_of gs ∷ runs (drop (suc (length (run_of gs).blanks + length (run_of gs).text - 1)) gs)
unfolding runs
runs_step gs h = each_step _ run_of gs h

no_runs : (count : List Glyph → ℕ) (o : Opts) (new_line previous : Bool) → (mail_words [] ≡ []) × (line_words count o new_line previous [] ≡ [])
unfolding mail_words line_words
no_runs count o new_line previous = (refl, refl)

-- a run without text ends the words, and one with text is a word
module _ (count : List Glyph → ℕ) (o : Opts) (new_line previous : Bool) (r : Run) (rs : List Run) where
  text_none : r.text ≡ [] → (mail_words (r ∷ rs) ≡ []) × (line_words count o new_line previous (r ∷ rs) ≡ [])
  unfolding mail_words line_words
  text_none e = (rw e, rw e)

  text_some : {g : Glyph} {gs : List Glyph} → r.text ≡ g ∷ gs
      → (mail_words (r ∷ rs) ≡ mail_word r ∷ mail_words rs) × (line_words count o new_line previous (r ∷ rs) ≡ word_of count o new_line previous r ∷ line_words count o false (punct_at_end r.text) rs)
  unfolding mail_words line_words
  text_some e = (pick r.text e _, pick r.text e _)
    where
      pick : (t : List Glyph) {h : Glyph} {hs : List Glyph} → t ≡ h ∷ hs → (ws : List Word) → elim t as (λ t. List Word) [ [] ↦ [] | x ∷ (xs → y) ↦ ws ] ≡ ws
      pick [] q ws = absurd (let z : ◌≡◌ {A = ℕ} 0 1 = cc in omega arith)
      pick (x ∷ t) q ws = refl

-- blanks alone make no word
pub words_none : (o : Opts) (mail new_line previous : Bool) (gs : List Glyph) → behind is_blank gs ≡ [] → words_from o mail new_line previous gs ≡ []
unfolding run_of while words_from
words_none o true new_line previous [] e = rw runs_nil (no_runs (counting o.by_characters) o new_line previous).0
words_none o false new_line previous [] e = rw runs_nil (no_runs (counting o.by_characters) o new_line previous).1
words_none o true new_line previous (g ∷ gs) e = rw (runs_step (g ∷ gs) (omega arith)) (text_none (counting o.by_characters) o new_line previous (run_of (g ∷ gs)) _ (rw e)).0
words_none o false new_line previous (g ∷ gs) e = rw (runs_step (g ∷ gs) (omega arith)) (text_none (counting o.by_characters) o new_line previous (run_of (g ∷ gs)) _ (rw e)).1

-- and have no place
places_empty : (at : ℕ) → places_from at [] ≡ []
unfolding places_from
places_empty at = refl

places_text_none : (at : ℕ) (r : Run) (rs : List Run) → r.text ≡ [] → places_from at (r ∷ rs) ≡ []
unfolding places_from
places_text_none at r rs e = rw e

pub places_none : (at : ℕ) (gs : List Glyph) → behind is_blank gs ≡ [] → places_from at (runs gs) ≡ []
unfolding run_of while
places_none at [] e = rw runs_nil (places_empty at)
places_none at (g ∷ gs) e = rw (runs_step (g ∷ gs) (omega arith)) (places_text_none at (run_of (g ∷ gs)) _ (rw e))

places_text_some : (at start end : ℕ) (r : Run) (rs : List Run) {g : Glyph} {gs : List Glyph} → r.text ≡ g ∷ gs → start ≡ at + extent r.blanks → end ≡ start + extent r.text
    → places_from at (r ∷ rs) ≡ start ∷ places_from end rs
unfolding places_from
places_text_some at start end r rs e p q = rw (q, p) (pick r.text e _)
  where
    pick : (t : List Glyph) {h : Glyph} {hs : List Glyph} → t ≡ h ∷ hs → (ns : List ℕ) → elim t as (λ t. List ℕ) [ [] ↦ [] | x ∷ (xs → y) ↦ ns ] ≡ ns
    pick [] z ns = absurd (let k : ◌≡◌ {A = ℕ} 0 1 = cc in omega arith)
    pick (x ∷ t) z ns = refl

-- a word
unfoldable pub word_for : Opts → Bool → Bool → Bool → Run → Word
word_for o true new_line previous r = mail_word r
word_for o false new_line previous r = word_of (counting o.by_characters) o new_line previous r

module _ (gs : List Glyph) {g : Glyph} {rest : List Glyph} (some : behind is_blank gs ≡ g ∷ rest) where
  pub text_is : while is_ink (behind is_blank gs) ≡ g ∷ while is_ink rest
  text_is = let b = behind_fails is_blank gs some in rw some (while_more is_ink g rest (rw b))

  runs_first : runs gs ≡ run_of gs ∷ runs (behind is_ink (behind is_blank gs))
  unfolding run_of
  runs_first =
      let h : 0 < length gs = omega (arith, ap length (while_behind is_blank gs), length-append (while is_blank gs) (behind is_blank gs), ap length some) in
      let n = ap length text_is in
      let e : suc (length (while is_blank gs) + length (while is_ink (behind is_blank gs)) - 1) ≡ length (while is_blank gs) + length (while is_ink (behind is_blank gs)) = omega arith in
      let d : drop (length (while is_blank gs) + length (while is_ink (behind is_blank gs))) gs ≡ behind is_ink (behind is_blank gs) =
      sym (drop-drop (length (while is_ink (behind is_blank gs))) (length (while is_blank gs)) gs)
      ∙ ap (drop (length (while is_ink (behind is_blank gs)))) (drop_while is_blank gs) ∙ drop_while is_ink (behind is_blank gs) in
      runs_step gs h ∙ ap (λ (l : List Glyph). run_of gs ∷ runs l) (rw e d)

  pub places_one : (at start end : ℕ) → start ≡ at + extent (while is_blank gs) → end ≡ start + extent (while is_ink (behind is_blank gs))
      → places_from at (runs gs) ≡ start ∷ places_from end (runs (behind is_ink (behind is_blank gs)))
  unfolding run_of
  places_one at start end p q = rw runs_first (places_text_some at start end (run_of gs) _ text_is p q)

  pub words_one : (o : Opts) (mail new_line previous : Bool)
      → words_from o mail new_line previous gs ≡ word_for o mail new_line previous (run_of gs) ∷ words_from o mail false (punct_at_end (while is_ink (behind is_blank gs))) (behind is_ink (behind is_blank gs))
  unfolding run_of word_for words_from
  words_one o true new_line previous = rw runs_first (text_some (counting o.by_characters) o new_line previous (run_of gs) _ text_is).0
  words_one o false new_line previous = rw runs_first (text_some (counting o.by_characters) o new_line previous (run_of gs) _ text_is).1
