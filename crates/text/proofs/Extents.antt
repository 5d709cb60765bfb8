-- Each glyph of a text has a byte; one that is blank is not damaged and has a blank character's octets.
use mathlib.Core.Path.{◌≡◌, refl, sym, ap, ◌∙◌}
use mathlib.Core.Bool.{Bool, true, false, cond, ◌&&◌, false≢true}
use mathlib.Core.List.{List, [], ◌∷◌}
use Prim.Native.Nat.{ℕ, ◌-◌, ◌<◌}
use native.Mathlib.Omega.{arith}
use lib.ListN.{length, take, drop}
use lib.Seq.{take-append_seam}
use Rattle.lists.specs.Runs.{begins}
use Rattle.lists.specs.Theorems.All.{All}
use Rattle.lists.proofs.Runs.{begins_front}
use Rattle.lists.proofs.All.{all_weaken}
use Rattle.lists.proofs.Extents.{each_all}
use Rattle.text.specs.Rfc3629.{Front, front, nothing, scalar, encode, spelled, decode}
use Rattle.widths.specs.Widths.{width_of}
use Rattle.widths.specs.WhiteSpace.{white_space}
use Rattle.text.proofs.Decoder.{some_octets}
use Rattle.text.specs.Characters.{Glyph, glyph_as, glyph, characters, ordinary, glyphs}
use Rattle.text.specs.Cited.Places.{settle}
use Rattle.text.proofs.Glue.{glyphs_settle, settle_all}

-- what the decoder finds has its encoding's length, and that encoding begins the list
decode_octets : (xs : List ℕ) (c n : ℕ) → decode xs ≡ front c n → (n ≡ length (encode c)) × (take n xs ≡ encode c)
unfolding decode
decode_octets [] c n e = (cc, cc)
decode_octets (a ∷ xs) c n e = go (spelled a xs) (scalar (spelled a xs)) (begins (encode (spelled a xs)) (a ∷ xs)) refl e
  where
    go : (d : ℕ) (s b : Bool) → begins (encode d) (a ∷ xs) ≡ b → cond (s && b) (front d (length (encode d))) nothing ≡ front c n
        → (n ≡ length (encode c)) × (take n (a ∷ xs) ≡ encode c)
    go d true true h e =
        let k : d ≡ c = cc in
        let m : length (encode d) ≡ n = cc in
        let t : take (length (encode d)) (a ∷ xs) ≡ encode d = ap (take (length (encode d))) (begins_front (encode d) (a ∷ xs) h) ∙ take-append_seam (encode d) (drop (length (encode d)) (a ∷ xs)) in
        (sym m ∙ ap (λ (j : ℕ). length (encode j)) k, rw (← m, ← k) t)
    go d true false h e = (cc, cc)
    go d false b h e = (cc, cc)

-- what holds of each glyph of a line
pub record Sound (g : Glyph) : Type 0 where
  pub some : 0 < length g.bytes
  pub good : g.blank ≡ true → g.damaged ≡ false
  pub code : g.blank ≡ true → white_space g.code ≡ true
  pub octets : g.blank ≡ true → g.bytes ≡ encode g.code

-- what holds of each character besides
pub record Read (g : Glyph) : Type 0 where
  pub is_sound : Sound g
  pub is_blank : white_space g.code ≡ g.blank
  pub has_width : g.damaged ≡ false → g.width ≡ width_of g.code

pub glyph_read : (xs : List ℕ) → 0 < length xs → Read (glyph xs)
unfolding glyph white_space
glyph_read [] h = absurd (omega arith)
glyph_read (x ∷ xs) h = read (decode (x ∷ xs)) refl
  where
    ReadAs : Front → Type 0
    ReadAs f = Read (glyph_as (x ∷ xs) f)

    none : ReadAs nothing
    none = record {
      is_sound = record { some = omega arith; good = λ e. absurd (false≢true e); code = λ e. absurd (false≢true e); octets = λ e. absurd (false≢true e) };
      is_blank = refl;
      has_width = λ e. absurd (false≢true (sym e));
    }

    read : (f : Front) → decode (x ∷ xs) ≡ f → ReadAs f
    read (front c n) e =
        let d = decode_octets (x ∷ xs) c n e in
        let l : length (take n (x ∷ xs)) ≡ n = rw d.1 (sym d.0) in
        let s = some_octets c in
        record { is_sound = record { some = omega arith; good = λ e. refl; code = λ e. e; octets = λ e. d.1 }; is_blank = refl; has_width = λ e. refl }
    read nothing e = none

pub characters_read : (xs : List ℕ) → All Read (characters xs)
unfolding characters
characters_read xs = each_all (λ ys. length (glyph ys).bytes - 1) glyph Read (λ ys h. glyph_read ys h) xs

ordinary_sound : (g : Glyph) → Sound g → Sound (ordinary g)
ordinary_sound g s = record { some = s.some; good = λ e. absurd (false≢true e); code = λ e. absurd (false≢true e); octets = λ e. absurd (false≢true e) }

-- of all glyphs of the rest of a line, and of a whole one
settle_sound : (glue ink : Bool) (xs : List ℕ) → All Sound (settle glue ink (characters xs))
settle_sound glue ink xs = settle_all Sound ordinary_sound glue ink (characters xs) (all_weaken Read Sound (λ g r. r.is_sound) (characters xs) (characters_read xs))

pub glyphs_sound : (glue : Bool) (xs : List ℕ) → All Sound (glyphs glue xs)
glyphs_sound glue xs = rw (glyphs_settle glue xs) (settle_sound glue false xs)
