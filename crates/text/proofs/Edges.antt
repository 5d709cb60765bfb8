-- A line's glyphs from a place on. Before ink, in an indent or a gap, they are `glyphs` of what is left; after ink, in a word, `ink_glyphs`
-- of it. So a walk knows at each place which of the two it has.
use mathlib.Core.Path.{◌≡◌, refl, sym, ap, ◌∙◌}
use mathlib.Core.Bool.{Bool, true, false, not, false≢true}
use mathlib.Core.List.{List, [], ◌∷◌, ◌++◌, map}
use Prim.Native.Nat.{ℕ, ◌+◌, ◌≤◌, ◌<◌}
use native.Mathlib.Omega.{arith}
use lib.Dec.{ltb, eqb}
use lib.ListN.{length, drop}
use lib.Seq.{drop-drop}
use borrow.Author.Tests.{ltb-true, ltb-false, ne_eqb}
use Rattle.lists.specs.Runs.{while, behind, joined}
use Rattle.lists.specs.Theorems.All.{All}
use Rattle.lists.proofs.Runs.{while_more, while_end, behind_more, behind_end}
use Rattle.widths.specs.WhiteSpace.{white_space}
use Rattle.text.specs.Characters.{Glyph, glyph, characters, no_break, ordinary, ink_ahead, glyphs, extent}
use Rattle.text.specs.Cited.Places.{settle, ink_glyphs, ink_behind}
use Rattle.text.proofs.Glyphs.{Here, DamagedHere, Bytes, characters_past, characters_first, characters_step, characters_induct, characters_joined}
use Rattle.text.proofs.Extents.{Read, characters_read}
use Rattle.text.proofs.NoBreaks.{no_break_blank}
use Rattle.text.proofs.Glue.{glyphs_settle, settle_none, settle_other, settle_blank, settle_start, settle_end, settle_run, settle_edge, settle_joined}

-- with glue off there is one way to read
pub ink_off : (xs : List ℕ) → ink_glyphs false xs ≡ glyphs false xs
unfolding ink_glyphs settle glyphs
ink_off xs = refl

-- another character than U+00A0
other_code : {t : Bool} {s : List ℕ} {at code next : ℕ} → Here t s at code next → (code ≡ 0xA0 → ⊥) → no_break (glyph (drop at s)) ≡ false
other_code g h = ne_eqb _ _ (λ e. h (sym g.has_code ∙ e))

damaged_code : {s : List ℕ} {at : ℕ} → DamagedHere s at → no_break (glyph (drop at s)) ≡ false
damaged_code g = ap (λ (c : ℕ). eqb c 0xA0) g.has_code

ink_code : {s : List ℕ} {at code next : ℕ} → Here false s at code next → code ≡ 0xA0 → ⊥
unfolding white_space
ink_code g e = let k = sym (ap white_space e) ∙ g.is_blank_code in let z : ◌≡◌ {A = ℕ} 0 1 = cc in omega arith

module _ (glue : Bool) (s : List ℕ) (at : ℕ) where
  pub glyphs_past : length s ≤ at → glyphs glue (drop at s) ≡ []
  glyphs_past h = glyphs_settle glue (drop at s) ∙ ap (settle glue false) (characters_past s at h) ∙ settle_none glue false

  pub ink_past : length s ≤ at → ink_glyphs glue (drop at s) ≡ []
  unfolding ink_glyphs
  ink_past h = ap (settle glue true) (characters_past s at h) ∙ settle_none glue true

  -- where no ink follows, and at another character than U+00A0, both are the same
  pub ink_edge : ink_ahead (characters (drop at s)) ≡ false → ink_glyphs glue (drop at s) ≡ glyphs glue (drop at s)
  unfolding ink_glyphs
  ink_edge e = settle_end glue (characters (drop at s)) e ∙ sym (glyphs_settle glue (drop at s))

  pub ink_begins : no_break (glyph (drop at s)) ≡ false → ink_glyphs glue (drop at s) ≡ glyphs glue (drop at s)
  unfolding ink_glyphs
  ink_begins e = pick (ltb at (length s)) refl
    where
      pick : (t : Bool) → ltb at (length s) ≡ t → settle glue true (characters (drop at s)) ≡ glyphs glue (drop at s)
      pick true h =
          let f = characters_first s at (ltb-true at (length s) h) in
          ap (settle glue true) f ∙ settle_start glue (glyph (drop at s)) (characters (drop (at + length (glyph (drop at s)).bytes) s)) e ∙ sym (ap (settle glue false) f) ∙ sym (glyphs_settle glue (drop at s))
      pick false h = let l = ltb-false at (length s) h in ink_past l ∙ sym (glyphs_past l)

  -- one character more that is no blank
  more : (next : ℕ) → characters (drop at s) ≡ glyph (drop at s) ∷ characters (drop next s) → no_break (glyph (drop at s)) ≡ false → (glyph (drop at s)).blank ≡ false
      → ink_glyphs glue (drop at s) ≡ glyph (drop at s) ∷ ink_glyphs glue (drop next s)
  unfolding ink_glyphs
  more next e n b =
      ap (settle glue true) e
      ∙ settle_other glue (glyph (drop at s)) (characters (drop next s)) true n
      ∙ ap (λ (t : Bool). glyph (drop at s) ∷ settle glue (not t) (characters (drop next s))) b

  module _ {code next : ℕ} where
    -- a blank before ink
    pub blank_on : Here true s at code next → glyphs glue (drop at s) ≡ glyph (drop at s) ∷ glyphs glue (drop next s)
    blank_on g =
        glyphs_settle glue (drop at s)
        ∙ ap (settle glue false) g.first
        ∙ settle_blank glue (glyph (drop at s)) (characters (drop next s)) g.is_blank
        ∙ ap (λ (gs : List Glyph). glyph (drop at s) ∷ gs) (sym (glyphs_settle glue (drop next s)))

    -- one more character of a word
    pub ink_on : Here false s at code next → ink_glyphs glue (drop at s) ≡ glyph (drop at s) ∷ ink_glyphs glue (drop next s)
    ink_on g = more next g.first (other_code g (ink_code g)) g.is_blank

    -- a word ends at another blank than U+00A0
    pub ink_stop : Here true s at code next → (code ≡ 0xA0 → ⊥) → ink_glyphs glue (drop at s) ≡ glyphs glue (drop at s)
    ink_stop g h = ink_begins (other_code g h)

  -- a damaged byte is ink
  pub damaged_on : DamagedHere s at → ink_glyphs glue (drop at s) ≡ glyph (drop at s) ∷ ink_glyphs glue (drop (at + 1) s)
  damaged_on g = more (at + 1) g.first (damaged_code g) g.is_blank

  -- what stands first is not changed: after no ink nothing is made ordinary
  pub glyphs_first : at < length s → glyphs glue (drop at s) ≡ glyph (drop at s) ∷ settle glue (ink_behind false (glyph (drop at s))) (characters (drop (at + length (glyph (drop at s)).bytes) s))
  glyphs_first h = glyphs_settle glue (drop at s) ∙ ap (settle glue false) (characters_first s at h) ∙ settle_edge glue (glyph (drop at s)) (characters (drop (at + length (glyph (drop at s)).bytes) s))

-- what is after a run of glyphs, by its extent
pub characters_behind : (test : Glyph → Bool) (xs : List ℕ) → characters (drop (extent (while test (characters xs))) xs) ≡ behind test (characters xs)
unfolding extent while behind
characters_behind test = characters_induct (λ ys gs. characters (drop (extent (while test gs)) ys) ≡ behind test gs) (characters_past [] 0 (omega arith)) more
  where
    more : (ys : List ℕ) (b : Bytes ys) → characters (drop (extent (while test (characters (drop b.n ys)))) (drop b.n ys)) ≡ behind test (characters (drop b.n ys))
        → characters (drop (extent (while test (glyph ys ∷ characters (drop b.n ys)))) ys) ≡ behind test (glyph ys ∷ characters (drop b.n ys))
    more ys b e = pick (test (glyph ys)) refl
      where
        pick : (t : Bool) → test (glyph ys) ≡ t → characters (drop (extent (while test (glyph ys ∷ characters (drop b.n ys)))) ys) ≡ behind test (glyph ys ∷ characters (drop b.n ys))
        pick true h = rw (while_more test (glyph ys) (characters (drop b.n ys)) h, behind_more test (glyph ys) (characters (drop b.n ys)) h, b.count) (ap characters (sym (drop-drop (extent (while test (characters (drop b.n ys)))) b.n ys)) ∙ e)
        pick false h = rw (while_end test (glyph ys) (characters (drop b.n ys)) h, behind_end test (glyph ys) (characters (drop b.n ys)) h) (characters_step ys b)

module _ (s : List ℕ) (at : ℕ) where
  -- a run of U+00A0 between ink: it is ordinary, and a word goes on after it
  pub run_on : ink_ahead (characters (drop at s)) ≡ true
      → ink_glyphs true (drop at s) ≡ map ordinary (while no_break (characters (drop at s))) ++ ink_glyphs true (drop (at + extent (while no_break (characters (drop at s)))) s)
  unfolding ink_glyphs
  run_on e =
      settle_run (characters (drop at s)) e
      ∙ ap (λ (gs : List Glyph). map ordinary (while no_break (characters (drop at s))) ++ settle true true gs)
      (sym (characters_behind no_break (drop at s)) ∙ ap characters (drop-drop (extent (while no_break (characters (drop at s)))) at s))

-- the glyphs' bytes, joined, are the text
pub glyphs_joined : (glue : Bool) (xs : List ℕ) → joined (λ g. g.bytes) (glyphs glue xs) ≡ xs
glyphs_joined glue xs = ap (joined (λ g. g.bytes)) (glyphs_settle glue xs) ∙ settle_joined glue false (characters xs) ∙ characters_joined xs

-- where what is left of a line begins with no blank, it is read as after ink: U+00A0 is blank elsewhere
pub ink_stands : (glue ink : Bool) (xs : List ℕ) (g : Glyph) (gs : List Glyph) → settle glue ink (characters xs) ≡ g ∷ gs → g.blank ≡ false → settle glue ink (characters xs) ≡ ink_glyphs glue xs
unfolding ink_glyphs
ink_stands glue true xs g gs e b = refl
ink_stands glue false xs g gs e b = pick (characters xs) (characters_read xs) e
  where
    pick : (cs : List Glyph) → All Read cs → settle glue false cs ≡ g ∷ gs → settle glue false cs ≡ settle glue true cs
    pick [] a k = settle_none glue false ∙ sym (settle_none glue true)
    pick (c ∷ cs) a k = sym (settle_start glue c cs (other (no_break c) refl))
      where
        other : (n : Bool) → no_break c ≡ n → n ≡ false
        other false h = refl
        other true h =
            let f = sym (settle_edge glue c cs) ∙ k in
            let q : c ≡ g = cc in
            absurd (false≢true (sym b ∙ ap (λ (x : Glyph). x.blank) (sym q) ∙ no_break_blank c a.0 h))
