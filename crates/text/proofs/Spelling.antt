-- A character's octets, with anything after them, are read as that character again.
use mathlib.Core.Path.{◌≡◌, refl, sym, ap, ◌∙◌}
use mathlib.Core.Bool.{Bool, true, false, cond, not, ◌&&◌, true≢false}
use mathlib.Core.List.{List, [], ◌∷◌, ◌++◌}
use Prim.Native.Nat.{ℕ, suc, ◌-◌, ◌<◌}
use native.Mathlib.Omega.{arith}
use lib.Dec.{T}
use borrow.Author.Tests.{eqb-true}
use lib.ListN.{length, length-append}
use lib.Seq.{take-append_seam, drop-append_seam}
use Rattle.lists.specs.Theorems.All.{All}
use Rattle.lists.proofs.Walk.{each_step}
use Rattle.lists.proofs.Extents.{each_all}
use Rattle.widths.specs.Widths.{width_of}
use Rattle.widths.specs.WhiteSpace.{white_space}
use Rattle.text.specs.Rfc3629.{Front, front, nothing, scalar, encode, decode}
use Rattle.text.specs.Characters.{Glyph, glyph_as, glyph, characters, no_break, ordinary, ink_ahead, glued, glyphs}
use Rattle.text.proofs.Decoder.{some_octets, sound, complete}
use Rattle.text.proofs.Glue.{glued_run, glued_other}

-- a glyph that is a character: its octets and its width; and a tab is a blank
pub record Spells (g : Glyph) : Type 0 where
  pub is_scalar : T (scalar g.code)
  pub octets : g.bytes ≡ encode g.code
  pub has_width : g.width ≡ width_of g.code
  pub tab : g.code ≡ 9 → g.blank ≡ true

abbrev pub Undamaged : Glyph → Type 0
Undamaged g = g.damaged ≡ false → Spells g

glyph_spells : (xs : List ℕ) → Undamaged (glyph xs)
unfolding glyph white_space
glyph_spells xs = go (decode xs) refl
  where
    go : (f : Front) → decode xs ≡ f → (glyph_as xs f).damaged ≡ false → Spells (glyph_as xs f)
    go nothing e h = absurd (true≢false h)
    go (front c n) e h =
        let d = sound xs c n e in
        record { is_scalar = d.stands.is_scalar; octets = rw (d.count, d.stands.octets) (take-append_seam (encode c) _); has_width = refl; tab = λ k. rw k }

-- a U+00A0 that is ordinary is no tab
ordinary_spells : (g : Glyph) → no_break g ≡ true → Undamaged g → Undamaged (ordinary g)
ordinary_spells g n s h =
    let k = s h in
    record { is_scalar = k.is_scalar; octets = k.octets; has_width = k.has_width; tab = λ e. absurd (let c = eqb-true g.code 0xA0 n in omega arith) }

glued_spells : (ink : Bool) (gs : List Glyph) → All Undamaged gs → All Undamaged (glued ink gs)
unfolding glued
glued_spells ink [] a = tt
glued_spells ink (g ∷ gs) a = pick (no_break g) refl (λ i. glued_spells i gs a.1)
  where
    either : (t : Bool) → no_break g ≡ true → Undamaged (cond t (ordinary g) g)
    either true n = ordinary_spells g n a.0
    either false n = a.0

    pick : (t : Bool) → no_break g ≡ t → ((i : Bool) → All Undamaged (glued i gs)) → All Undamaged (glued ink (g ∷ gs))
    pick true n rest = rw (glued_run g gs ink n) (either (ink && ink_ahead gs) n, rest ink)
    pick false n rest = rw (glued_other g gs ink n) (a.0, rest (not g.blank))

-- each character of a line that is not damaged
pub glyphs_spell : (glue : Bool) (xs : List ℕ) → All Undamaged (glyphs glue xs)
unfolding characters glyphs
glyphs_spell glue xs = go glue (each_all (λ ys. length (glyph ys).bytes - 1) glyph Undamaged (λ ys h. glyph_spells ys) xs)
  where
    go : (b : Bool) → All Undamaged (characters xs) → All Undamaged (glyphs b xs)
    go true a = glued_spells false (characters xs) a
    go false a = a

-- its octets read again: a character of the same number and width, and after it what stands there
pub record ReadAgain (g : Glyph) (ys : List ℕ) : Type 0 where
  pub again : Glyph
  pub first : characters (g.bytes ++ ys) ≡ again ∷ characters ys
  pub same_code : again.code ≡ g.code
  pub same_width : again.width ≡ g.width

glyph_of : (c n : ℕ) (xs : List ℕ) → decode xs ≡ front c n → glyph xs ≡ glyph_as xs (front c n)
unfolding glyph
glyph_of c n xs e = ap (glyph_as xs) e

characters_step : (g : Glyph) (xs ys : List ℕ) → glyph (xs ++ ys) ≡ g → g.bytes ≡ xs → 0 < length xs → characters (xs ++ ys) ≡ g ∷ characters ys
unfolding characters
characters_step g xs ys e b h =
    let n : suc (length xs - 1) ≡ length xs = omega arith in
    each_step (λ zs. length (glyph zs).bytes - 1) glyph (xs ++ ys) (simp length-append (omega arith)) ∙ rw (e, b, n, drop-append_seam xs ys)

pub read_again : (g : Glyph) (ys : List ℕ) → Spells g → ReadAgain g ys
read_again g ys s =
    let octets : List ℕ = encode g.code in
    let n : ℕ = length octets in
    let e = complete g.code (octets ++ ys) ys (record { is_scalar = s.is_scalar; octets = refl }) in
    let some = some_octets g.code in
    record {
      again = glyph_as (octets ++ ys) (front g.code n);
      first = rw s.octets (characters_step _ octets ys (glyph_of g.code n (octets ++ ys) e) (take-append_seam octets ys) (omega arith));
      same_code = refl;
      same_width = sym s.has_width;
    }
