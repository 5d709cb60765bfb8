-- The code's answers at a place, each from the one below: a character from what is decoded, a glyph from the character.
use Rattle.std.proofs.Common.{Option, Some, None}
use mathlib.Core.Path.{◌≡◌, refl, ap, ap₂, ◌∙◌}
use lib.ListN.{drop}
use mathlib.Core.Bool.{Bool, true, false, cond}
use mathlib.Core.List.{List}
use Prim.Native.Nat.{ℕ, ◌+◌}
use native.Mathlib.Omega.{arith}
use lib.Seq.{length-take-le}
use Rattle.text.specs.Rfc3629.{Front, front, nothing, decode}
use Rattle.widths.specs.WhiteSpace.{white_space}
use Rattle.text.specs.Characters.{glyph_as, glyph}
use Rattle.text.specs.Cited.Places.{read_as, glyph_of, seen_as, good}
use Rattle.text.specs.declared.Char.{Char}
use Rattle.text.specs.declared.Glyph.{Glyph as Seen}
use Rattle.text.specs.declared.Glyph.TheVariants.{Ink, Blank, Damaged as Broken}
use Rattle.std.proofs.lemmas.Option.{same_Some}
use Rattle.text.proofs.Decoder.{sound}

abbrev pub seen_char : Option Char → Seen
seen_char (Some c) = glyph_of c.code c.next
seen_char None = Broken

pub seen_char_spec : (at : ℕ) (xs : List ℕ) → seen_char (read_as at (decode xs)) ≡ seen_as at (glyph xs)
unfolding glyph seen_as
seen_char_spec at xs = pick (decode xs) refl
  where
    pick : (f : Front) → decode xs ≡ f → seen_char (read_as at f) ≡ seen_as at (glyph_as xs f)
    pick nothing e = refl
    pick (front c n) e = rw (length-take-le n xs (sound xs c n e).within)

module _ (s : List ℕ) (at : ℕ) where
  -- from what is decoded there
  pub seen_some : (code next : ℕ) → good code next ≡ read_as at (decode (drop at s)) → glyph_of code next ≡ seen_as at (glyph (drop at s))
  seen_some code next e = ap seen_char e ∙ seen_char_spec at (drop at s)

  pub seen_none : None ≡ read_as at (decode (drop at s)) → Broken ≡ seen_as at (glyph (drop at s))
  seen_none e = ap seen_char e ∙ seen_char_spec at (drop at s)

-- the character that an answer was made from: a blank one (t true), an ordinary one, or none
pub glyph_char : (r : Option Char) (t : Bool) (c next : ℕ) → seen_char r ≡ cond t (Blank c next) (Ink c next) → (r ≡ good c next) × (white_space c ≡ t)
glyph_char None true c next h = absurd (let z : ◌≡◌ {A = ℕ} 0 1 = cc in omega arith)
glyph_char None false c next h = absurd (let z : ◌≡◌ {A = ℕ} 0 1 = cc in omega arith)
glyph_char (Some r) t c next h = pick (white_space r.code) t refl h
  where
    pick : (u v : Bool) → white_space r.code ≡ u → cond u (Blank r.code r.next) (Ink r.code r.next) ≡ cond v (Blank c next) (Ink c next) → (Some r ≡ good c next) × (white_space c ≡ v)
    pick true true b e = let q : r.code ≡ c = cc in (ap₂ good q cc, rw (← q) b)
    pick false false b e = let q : r.code ≡ c = cc in (ap₂ good q cc, rw (← q) b)
    pick true false b e = absurd (let z : ◌≡◌ {A = ℕ} 0 1 = cc in omega arith)
    pick false true b e = absurd (let z : ◌≡◌ {A = ℕ} 0 1 = cc in omega arith)

pub damaged_char : (r : Option Char) → seen_char r ≡ Broken → r ≡ None
damaged_char None h = refl
damaged_char (Some c) h = pick (white_space c.code) h
  where
    pick : (u : Bool) → cond u (Blank c.code c.next) (Ink c.code c.next) ≡ Broken → Some c ≡ None
    pick true e = cc
    pick false e = cc

-- one character is found by one number and one place
pub good_same : (c next d after : ℕ) → good c next ≡ good d after → (c ≡ d) × (next ≡ after)
good_same c next d after h = let e = same_Some _ _ h in (ap (λ (x : Char). x.code) e, ap (λ (x : Char). x.next) e)

-- the front that a character was read from
pub good_front : (at : ℕ) (f : Front) (c next : ℕ) → read_as at f ≡ good c next → (n : ℕ) × (f ≡ front c n) × (at + n ≡ next)
good_front at nothing c next h = absurd (let z : ◌≡◌ {A = ℕ} 0 1 = cc in omega arith)
good_front at (front c' n) c next h = let e = good_same c' (at + n) c next h in (n, ap (λ (k : ℕ). front k n) e.0, e.1)

pub damaged_front : (at : ℕ) (f : Front) → read_as at f ≡ None → f ≡ nothing
damaged_front at nothing h = refl
damaged_front at (front c n) h = cc
