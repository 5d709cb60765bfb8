-- Quick's output one word at a time: a word that fits stays after its spacing, and any other begins a fresh line.
use mathlib.Core.Path.{◌≡◌, refl, ◌∙◌}
use mathlib.Core.Bool.{Bool, true, false, cond, ◌&&◌, or-true, or-false}
use mathlib.Core.List.{List, [], ◌∷◌, ◌++◌, append-nil}
use Prim.Native.Nat.{ℕ, ◌+◌, ◌≤◌, ◌<◌}
use native.Mathlib.Omega.{arith}
use lib.Dec.{ltb}
use lib.ListN.{length, replicate}
use borrow.Author.Tests.{lt-ltb, le-ltb}
use Rattle.records.specs.Word.{Word}
use Rattle.spacing.specs.Spacing.{gap_width, added_space}
use Rattle.spacing.specs.declared.Setting.{Setting}
use Rattle.output.specs.Emission.{line_feed, space_before, emit_rest}
use Rattle.quick.specs.Quick.{quick_from}
use Rattle.quick.proofs.Width.{reached_by}
use Rattle.lists.specs.Runs.{every}
use Rattle.regular.specs.Cited.Regular.{is_space, columns, plain_word, lastly, added, quick_rest, quick_fresh, quick_on}
use Rattle.regular.proofs.Even.{EvenGap, spaces_are}

module _ (g : Setting) (indent : List ℕ) where
  -- of any words
  pub word_breaks : (column : ℕ) (punct : Bool) (w : Word) (ws : List Word) → ltb g.width (reached_by g column punct w) ≡ true
      → quick_rest g indent column punct (w ∷ ws) ≡ line_feed ++ (indent ++ quick_fresh g indent true g.indent (w ∷ ws))
  unfolding quick_rest quick_fresh quick_from emit_rest
  word_breaks column punct w ws h = rw (quick_from, h)

  pub word_stays : (column : ℕ) (punct : Bool) (w : Word) (ws : List Word) → ltb g.width (reached_by g column punct w) ≡ false
      → quick_rest g indent column punct (w ∷ ws) ≡ space_before g.uniform punct w ++ (w.text ++ quick_rest g indent (reached_by g column punct w) w.ends_punct ws)
  unfolding quick_rest quick_from emit_rest
  word_stays column punct w ws h = rw (quick_from, h)

  -- of a word of regular bytes, not the first of its line: what uniform adds are the spaces that it drops
  module _ (column : ℕ) (punct previous : Bool) (sp ink : List ℕ) (spaced : every is_space sp ≡ true) (even : g.uniform ≡ true → EvenGap previous sp) (ws : List Word) where
    gap_is : (u : Bool) → (u ≡ true → EvenGap previous sp) → cond u 0 (length sp) + added_space u false (previous && ltb 1 (length sp)) punct ≡ length sp
    unfolding added_space
    gap_is true e = let h = e refl in rw (or-false (previous && ltb 1 (length sp))) (omega (arith, h))
    gap_is false e = omega arith

    spaces_is : (u : Bool) → (u ≡ true → EvenGap previous sp) → replicate (added_space u false (previous && ltb 1 (length sp)) punct) 32 ++ cond u [] sp ≡ sp
    unfolding added_space
    spaces_is true e = rw (or-false (previous && ltb 1 (length sp)), ← e refl, append-nil (replicate {A = ℕ} (length sp) 32)) (spaces_are sp spaced)
    spaces_is false e = refl

    reach : reached_by g column punct (plain_word g.uniform false previous sp ink) ≡ column + length sp + columns ink
    unfolding gap_width
    reach = let h = gap_is g.uniform even in omega (arith, h)

    pub plain_stays : column + length sp + columns ink ≤ g.width
        → quick_rest g indent column punct (plain_word g.uniform false previous sp ink ∷ ws) ≡ sp ++ (ink ++ quick_rest g indent (column + length sp + columns ink) (lastly false ink) ws)
    unfolding space_before
    plain_stays h = word_stays column punct (plain_word g.uniform false previous sp ink) ws (rw reach (le-ltb _ _ h)) ∙ rw (reach, spaces_is g.uniform even)

    pub plain_breaks : g.width < column + length sp + columns ink
        → quick_rest g indent column punct (plain_word g.uniform false previous sp ink ∷ ws) ≡ line_feed ++ (indent ++ quick_fresh g indent true g.indent (plain_word g.uniform false previous sp ink ∷ ws))
    plain_breaks h = word_breaks column punct (plain_word g.uniform false previous sp ink) ws (rw reach (lt-ltb _ _ h))

  -- of the first word of a line after another one, whose last word's punctuation is known
  module _ (column : ℕ) (punct : Bool) (ink : List ℕ) (ws : List Word) where
    abbrev first_word : Word
    first_word = plain_word g.uniform true false [] ink

    no_gap : (u : Bool) → ◌≡◌ {A = ℕ} (cond u 0 0) 0
    no_gap true = refl
    no_gap false = refl

    no_blanks : (u : Bool) → ◌≡◌ {A = List ℕ} (cond u [] []) []
    no_blanks true = refl
    no_blanks false = refl

    reach_next : reached_by g column punct first_word ≡ column + added punct + columns ink
    unfolding gap_width added_space
    reach_next = rw (or-true g.uniform, no_gap g.uniform) (let e : column + 0 + cond punct 2 1 + columns ink ≡ column + cond punct 2 1 + columns ink = omega arith in e)

    pub next_stays : column + added punct + columns ink ≤ g.width
        → quick_rest g indent column punct (first_word ∷ ws) ≡ replicate (added punct) 32 ++ (ink ++ quick_rest g indent (column + added punct + columns ink) (lastly false ink) ws)
    unfolding space_before added_space
    next_stays h =
        word_stays column punct first_word ws (rw reach_next (le-ltb _ _ h)) ∙ rw (reach_next, or-true g.uniform, no_blanks g.uniform, append-nil (replicate {A = ℕ} (cond punct 2 1) 32))

    pub next_breaks : g.width < column + added punct + columns ink
        → quick_rest g indent column punct (first_word ∷ ws) ≡ line_feed ++ (indent ++ quick_fresh g indent true g.indent (first_word ∷ ws))
    next_breaks h = word_breaks column punct first_word ws (rw reach_next (lt-ltb _ _ h))

-- ---- where a paragraph stands

module _ (g : Setting) (indent : List ℕ) (begins : Bool) (column : ℕ) (punct : Bool) (ws : List Word) where
  -- after a word
  pub on_rest : begins ≡ false → quick_on g indent begins column punct ws ≡ quick_rest g indent column punct ws
  unfolding quick_on
  on_rest e = rw e

  -- before its first
  pub on_fresh : begins ≡ true → quick_on g indent begins column punct ws ≡ quick_fresh g indent false column ws
  unfolding quick_on
  on_fresh e = rw e

-- no words are left
pub on_none : (g : Setting) (indent : List ℕ) (begins : Bool) (column : ℕ) (punct : Bool) → quick_on g indent begins column punct [] ≡ line_feed
unfolding quick_on quick_fresh quick_rest quick_from emit_rest
on_none g indent true column punct = refl
on_none g indent false column punct = refl
