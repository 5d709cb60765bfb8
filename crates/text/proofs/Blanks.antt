-- Blank characters: none, spaces, and a text's blank glyphs where the text has no line feed. And a damaged text is not all blank.
use Rattle.std.proofs.Common.{Some, None}
use mathlib.Core.Path.{◌≡◌, refl, sym, ap, ◌∙◌}
use mathlib.Core.Bool.{Bool, true, false, cond, not, ◌&&◌, false≢true, and-eq-true_iff}
use mathlib.Core.List.{List, [], ◌∷◌, ◌++◌, map}
use Prim.Native.Nat.{ℕ, zero, suc}
use lib.Dec.{eqb}
use lib.ListN.{replicate}
use borrow.Author.Tests.{eqb-true}
use Rattle.lists.specs.Runs.{every, joined, while}
use Rattle.lists.specs.Theorems.All.{All}
use Rattle.lists.proofs.Parts.{every_nil, every_cons, every_append, joined_nil, joined_cons}
use Rattle.text.specs.Rfc3629.{encode}
use Rattle.widths.specs.WhiteSpace.{white_space}
use Rattle.text.specs.Characters.{Glyph, characters, glyphs, is_blank, is_good, extent, damage}
use Rattle.text.specs.Theorems.Blanks.{space_code, Blanks}
use Rattle.text.proofs.Extents.{Sound}
use Rattle.text.proofs.Glue.{every_good}

pub blanks_none : Blanks [] []
blanks_none = record { blank = every_nil space_code; octets = sym (joined_nil encode) }

-- one blank character more at the front
blanks_cons : (c : ℕ) (codes bytes : List ℕ) → space_code c ≡ true → Blanks codes bytes → Blanks (c ∷ codes) (encode c ++ bytes)
blanks_cons c codes bytes e b = record {
  blank = rw (every_cons space_code c codes, e, b.blank);
  octets = rw (joined_cons encode c codes) (ap (λ (l : List ℕ). encode c ++ l) b.octets);
}

pub blanks_spaces : (n : ℕ) (codes bytes : List ℕ) → Blanks codes bytes → Blanks (replicate n 32 ++ codes) (replicate n 32 ++ bytes)
unfolding encode white_space
blanks_spaces zero codes bytes b = b
blanks_spaces (suc n) codes bytes b = blanks_cons 32 (replicate n 32 ++ codes) (replicate n 32 ++ bytes) refl (blanks_spaces n codes bytes b)

-- a blank glyph in which no line feed stands
no_feed_law : (g : Glyph) → Sound g → g.blank ≡ true → every (λ b. not (eqb b 10)) g.bytes ≡ true → space_code g.code ≡ true
unfolding every encode
no_feed_law g s e f = go (eqb g.code 10) refl
  where
    go : (t : Bool) → eqb g.code 10 ≡ t → (white_space g.code && not t) ≡ true
    go true k =
        let o : g.bytes ≡ encode 10 = s.octets e ∙ ap encode (eqb-true g.code 10 k) in
        absurd (false≢true (rw o at f))
    go false k = rw (s.code e)

-- the blank glyphs of a text that has no line feed
pub blanks_glyphs : (gs : List Glyph) → All Sound gs → every is_blank gs ≡ true → every (λ b. not (eqb b 10)) (joined (λ (g : Glyph). g.bytes) gs) ≡ true
    → Blanks (map (λ (g : Glyph). g.code) gs) (joined (λ (g : Glyph). g.bytes) gs)
blanks_glyphs [] s e f = rw joined_nil blanks_none
blanks_glyphs (g ∷ gs) s e f =
    let h = (and-eq-true_iff g.blank (every is_blank gs)).0 (rw every_cons at e) in
    let k = (and-eq-true_iff _ _).0 (rw (joined_cons, every_append) at f) in
    rw (joined_cons, s.0.octets h.0) (blanks_cons g.code _ _ (no_feed_law g s.0 h.0 k.0) (blanks_glyphs gs s.1 h.1 k.1))

blank_good : (gs : List Glyph) → All Sound gs → every is_blank gs ≡ true → every is_good gs ≡ true
blank_good [] s e = every_nil is_good
blank_good (g ∷ gs) s e =
    let h = (and-eq-true_iff g.blank (every is_blank gs)).0 (rw every_cons at e) in
    rw (every_cons is_good g gs, s.0.good h.0, blank_good gs s.1 h.1)

-- glyphs of which one is damaged are not all blank
pub damaged_ink : (gs : List Glyph) → All Sound gs → every is_good gs ≡ false → every is_blank gs ≡ false
damaged_ink gs s e = go (every is_blank gs) refl
  where
    go : (t : Bool) → every is_blank gs ≡ t → t ≡ false
    go true b = sym (blank_good gs s b) ∙ e
    go false b = refl

-- a text with a damaged place has a damaged glyph
pub damage_glyphs : (glue : Bool) (xs : List ℕ) (place : ℕ) → damage xs ≡ Some place → every is_good (glyphs glue xs) ≡ false
unfolding damage
damage_glyphs glue xs place e = every_good glue xs ∙ go (every is_good (characters xs)) e
  where
    go : (t : Bool) → cond t None (Some (extent (while is_good (characters xs)))) ≡ Some place → t ≡ false
    go true k = cc
    go false k = refl
