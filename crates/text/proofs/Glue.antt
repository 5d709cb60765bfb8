-- RULES 4.4: with glue off nothing moves. With glue on, a line's glyphs by what is left of it, of which it is told whether ink stands
-- before it: one character more, and a run of U+00A0. And what does not depend on glue: all of a glyph but whether it is blank.
use mathlib.Core.Path.{◌≡◌, refl, sym, ap, ap₂, ◌∙◌}
use mathlib.Core.Bool.{Bool, true, false, cond, not, ◌&&◌}
use mathlib.Core.List.{List, [], ◌∷◌, ◌++◌, map}
use Prim.Native.Nat.{ℕ}
use Rattle.lists.specs.Runs.{while, behind, every, joined}
use Rattle.lists.specs.Theorems.All.{All}
use Rattle.lists.proofs.Runs.{while_more, while_end, behind_more, behind_end, every_map}
use Rattle.lists.proofs.Parts.{while_nil, behind_nil, joined_cons}
use Rattle.text.specs.Characters.{Glyph, characters, no_break, ordinary, ink_ahead, glued, glyphs, is_good}
use Rattle.text.specs.Cited.Places.{settle, ink_behind}

-- with glue off, a line is its characters
pub glue_off : (line : List ℕ) → glyphs false line ≡ characters line
unfolding glyphs
glue_off line = refl

pub glyphs_settle : (glue : Bool) (line : List ℕ) → glyphs glue line ≡ settle glue false (characters line)
unfolding glyphs settle
glyphs_settle true line = refl
glyphs_settle false line = refl

pub ahead_none : ink_ahead [] ≡ false
unfolding ink_ahead
ahead_none = refl

pub settle_none : (glue ink : Bool) → settle glue ink [] ≡ []
unfolding settle glued
settle_none true ink = refl
settle_none false ink = refl

module _ (g : Glyph) (gs : List Glyph) where
  pub ahead_run : no_break g ≡ true → ink_ahead (g ∷ gs) ≡ ink_ahead gs
  unfolding ink_ahead
  ahead_run h = rw (h, ink_ahead)

  pub ahead_other : no_break g ≡ false → ink_ahead (g ∷ gs) ≡ not g.blank
  unfolding ink_ahead
  ahead_other h = rw (h, ink_ahead)

  pub glued_run : (ink : Bool) → no_break g ≡ true → glued ink (g ∷ gs) ≡ cond (ink && ink_ahead gs) (ordinary g) g ∷ glued ink gs
  unfolding glued
  glued_run ink h = rw (h, glued)

  pub glued_other : (ink : Bool) → no_break g ≡ false → glued ink (g ∷ gs) ≡ g ∷ glued (not g.blank) gs
  unfolding glued
  glued_other ink h = rw (h, glued)

-- whether ink is before what follows a character
pub behind_run : (ink : Bool) (g : Glyph) → no_break g ≡ true → ink_behind ink g ≡ ink
unfolding ink_behind
behind_run ink g h = rw (h, ink_behind)

pub behind_other : (ink : Bool) (g : Glyph) → no_break g ≡ false → ink_behind ink g ≡ not g.blank
unfolding ink_behind
behind_other ink g h = rw (h, ink_behind)

-- one character more: it is itself or made ordinary, and the rest is after it
pub settle_first : (glue ink : Bool) (g : Glyph) (gs : List Glyph) → (t : Bool) × (settle glue ink (g ∷ gs) ≡ cond t (ordinary g) g ∷ settle glue (ink_behind ink g) gs)
unfolding settle
settle_first false ink g gs = (false, refl)
settle_first true ink g gs = pick (no_break g) refl
  where
    pick : (n : Bool) → no_break g ≡ n → (t : Bool) × (glued ink (g ∷ gs) ≡ cond t (ordinary g) g ∷ glued (ink_behind ink g) gs)
    pick true h = (ink && ink_ahead gs, rw (glued_run g gs ink h, behind_run ink g h))
    pick false h = (false, rw (glued_other g gs ink h, behind_other ink g h))

module _ (glue : Bool) (g : Glyph) (gs : List Glyph) where
  -- another character than U+00A0 is itself
  pub settle_other : (ink : Bool) → no_break g ≡ false → settle glue ink (g ∷ gs) ≡ g ∷ settle glue (not g.blank) gs
  unfolding settle
  settle_other ink h = pick glue
    where
      pick : (t : Bool) → settle t ink (g ∷ gs) ≡ g ∷ settle t (not g.blank) gs
      pick true = glued_other g gs ink h
      pick false = refl

  -- U+00A0 that is after no ink is itself
  settle_still : no_break g ≡ true → settle glue false (g ∷ gs) ≡ g ∷ settle glue false gs
  unfolding settle
  settle_still h = pick glue
    where
      pick : (t : Bool) → settle t false (g ∷ gs) ≡ g ∷ settle t false gs
      pick true = glued_run g gs false h
      pick false = refl

  -- a blank that is after no ink is itself, and no ink is before what follows it
  pub settle_blank : g.blank ≡ true → settle glue false (g ∷ gs) ≡ g ∷ settle glue false gs
  settle_blank b = pick (no_break g) refl
    where
      pick : (n : Bool) → no_break g ≡ n → settle glue false (g ∷ gs) ≡ g ∷ settle glue false gs
      pick true h = settle_still h
      pick false h = settle_other false h ∙ ap (λ (t : Bool). g ∷ settle glue (not t) gs) b

  -- what is at an edge is itself
  pub settle_edge : settle glue false (g ∷ gs) ≡ g ∷ settle glue (ink_behind false g) gs
  settle_edge = pick (no_break g) refl
    where
      pick : (n : Bool) → no_break g ≡ n → settle glue false (g ∷ gs) ≡ g ∷ settle glue (ink_behind false g) gs
      pick true h = settle_still h ∙ ap (λ (t : Bool). g ∷ settle glue t gs) (sym (behind_run false g h))
      pick false h = settle_other false h ∙ ap (λ (t : Bool). g ∷ settle glue t gs) (sym (behind_other false g h))

  -- what is before another character than U+00A0 does not matter
  pub settle_start : no_break g ≡ false → settle glue true (g ∷ gs) ≡ settle glue false (g ∷ gs)
  settle_start h = settle_other true h ∙ sym (settle_other false h)

-- where no ink follows, U+00A0 are blank whatever is before them
pub settle_end : (glue : Bool) (gs : List Glyph) → ink_ahead gs ≡ false → settle glue true gs ≡ settle glue false gs
unfolding settle
settle_end false gs e = refl
settle_end true [] e = settle_none true true ∙ sym (settle_none true false)
settle_end true (g ∷ gs) e = pick (no_break g) refl (settle_end true gs)
  where
    pick : (n : Bool) → no_break g ≡ n → (ink_ahead gs ≡ false → glued true gs ≡ glued false gs) → glued true (g ∷ gs) ≡ glued false (g ∷ gs)
    pick true h rest =
        let k : ink_ahead gs ≡ false = sym (ahead_run g gs h) ∙ e in
        rw (glued_run g gs true h, glued_run g gs false h, k, rest k)
    pick false h rest = glued_other g gs true h ∙ sym (glued_other g gs false h)

-- after ink and before ink, each U+00A0 of a run is ordinary
pub settle_run : (gs : List Glyph) → ink_ahead gs ≡ true → settle true true gs ≡ map ordinary (while no_break gs) ++ settle true true (behind no_break gs)
unfolding settle
settle_run [] e = rw (while_nil no_break, behind_nil no_break)
settle_run (g ∷ gs) e = pick (no_break g) refl (settle_run gs)
  where
    pick : (n : Bool) → no_break g ≡ n → (ink_ahead gs ≡ true → glued true gs ≡ map ordinary (while no_break gs) ++ glued true (behind no_break gs))
        → glued true (g ∷ gs) ≡ map ordinary (while no_break (g ∷ gs)) ++ glued true (behind no_break (g ∷ gs))
    pick true h rest =
        let k : ink_ahead gs ≡ true = sym (ahead_run g gs h) ∙ e in
        rw (glued_run g gs true h, while_more no_break g gs h, behind_more no_break g gs h, k, rest k)
    pick false h rest = rw (while_end no_break g gs h, behind_end no_break g gs h)

-- bytes, codes, widths and whether a glyph is damaged: f is that field, and λ g. refl shows the rest
module _ {D : Type 0} (f : Glyph → D) (free : (g : Glyph) → f (ordinary g) ≡ f g) where
  either : (t : Bool) (g : Glyph) → f (cond t (ordinary g) g) ≡ f g
  either true g = free g
  either false g = refl

  pub settle_free : (glue ink : Bool) (gs : List Glyph) → map f (settle glue ink gs) ≡ map f gs
  settle_free glue ink [] = ap (map f) (settle_none glue ink)
  settle_free glue ink (g ∷ gs) =
      let v = settle_first glue ink g gs in
      ap (map f) v.1 ∙ ap₂ (λ (x : D) (xs : List D). x ∷ xs) (either v.0 g) (settle_free glue (ink_behind ink g) gs)

  pub glue_free : (glue : Bool) (line : List ℕ) → map f (glyphs glue line) ≡ map f (characters line)
  glue_free glue line = ap (map f) (glyphs_settle glue line) ∙ settle_free glue false (characters line)

pub settle_joined : (glue ink : Bool) (gs : List Glyph) → joined (λ (g : Glyph). g.bytes) (settle glue ink gs) ≡ joined (λ (g : Glyph). g.bytes) gs
settle_joined glue ink [] = ap (joined (λ (g : Glyph). g.bytes)) (settle_none glue ink)
settle_joined glue ink (g ∷ gs) =
    let v = settle_first glue ink g gs in
    rw (v.1, joined_cons _ (cond v.0 (ordinary g) g) (settle glue (ink_behind ink g) gs), joined_cons _ g gs, settle_joined glue (ink_behind ink g) gs, either (λ (x : Glyph). x.bytes) (λ x. refl) v.0 g)

pub every_good : (glue : Bool) (line : List ℕ) → every is_good (glyphs glue line) ≡ every is_good (characters line)
every_good glue line = every_map not (λ g. g.damaged) (glyphs glue line) ∙ ap (every not) (glue_free (λ g. g.damaged) (λ g. refl) glue line) ∙ sym (every_map not (λ g. g.damaged) (characters line))

-- what an ordinary glyph has too, all have
pub settle_all : (P : Glyph → Type 0) → ((g : Glyph) → P g → P (ordinary g)) → (glue ink : Bool) (gs : List Glyph) → All P gs → All P (settle glue ink gs)
settle_all P keeps glue ink [] a = rw (settle_none glue ink) tt
settle_all P keeps glue ink (g ∷ gs) a =
    let v = settle_first glue ink g gs in
    rw v.1 (pick v.0, settle_all P keeps glue (ink_behind ink g) gs a.1)
  where
    pick : (t : Bool) → P (cond t (ordinary g) g)
    pick true = keeps g a.0
    pick false = a.0
