-- What a character's first bytes say of it.
use mathlib.Core.Path.{◌≡◌, refl}
use mathlib.Core.Bool.{Bool, true, false}
use mathlib.Core.List.{List}
use Prim.Native.Nat.{ℕ, ◌+◌, ◌/◌, ◌%◌, ◌≤◌, ◌<◌}
use native.Mathlib.Omega.{arith}
use lib.Dec.{ltb}
use lib.ListN.{length, get_or, drop}
use lib.Seq.{get_or-drop}
use borrow.Author.Tests.{ltb-true, ltb-false}
use Rattle.widths.specs.WhiteSpace.{white_space}
use Rattle.widths.proofs.Inks.{ink_at, ink_behind}
use Rattle.text.specs.Rfc3629.{Front, front, nothing, decode}
use Rattle.text.specs.Characters.{glyph}
use Rattle.text.specs.Cited.Places.{read_as, good}
use Rattle.text.proofs.Decoder.{Octets, one, two, three, four, octets_of, sound}
use Rattle.text.proofs.Forms.{lead}
use Rattle.text.proofs.Letters.{ink_letter}
use Rattle.text.proofs.Places.{good_front}

-- ASCII from `!` on is no blank
pub plain_ink : (c : ℕ) → 33 ≤ c → c < 128 → white_space c ≡ false
plain_ink c h k = ink_at c h (λ a b. omega arith) (λ a b. omega arith)

module _ (s : List ℕ) (at : ℕ) (more : at < length s) where
  -- a character whose first byte is from E0 on has a number from U+0800 on
  pub long_code : 0xE0 ≤ get_or s at 0 → (code next : ℕ) → read_as at (decode (drop at s)) ≡ good code next → 0x800 ≤ code
  long_code h code next e =
      let v = good_front at (decode (drop at s)) code next e in
      pick (octets_of code (drop at s) (drop v.0 (drop at s)) (sound (drop at s) code v.0 v.1).stands)
    where
      pick : Octets code (drop at s) → 0x800 ≤ code
      pick (one l q) = absurd (omega (arith, lead s at more))
      pick (two l m q r) = absurd (omega (arith, lead s at more))
      pick (three l m q r t) = l
      pick (four l m q r t u) = omega arith

  -- blanks begin with few bytes
  pub lead_ink : 33 ≤ get_or s at 0 → (get_or s at 0 ≡ 0xC2 → ⊥) → (get_or s at 0 ≡ 0xE1 → ⊥) → (get_or s at 0 ≡ 0xE2 → ⊥) → (get_or s at 0 ≡ 0xE3 → get_or s (at + 1) 0 ≡ 0x80 → ⊥) → (glyph (drop at s)).blank ≡ false
  unfolding glyph
  lead_ink h c2 e1 e2 e3 = pick (decode (drop at s)) refl
    where
      b : get_or (drop at s) 1 0 ≡ get_or s (at + 1) 0
      b = get_or-drop at s 1 0

      behind : (c : ℕ) → 0x1000 ≤ c → get_or (drop at s) 0 0 ≡ 0xE0 + c / 4096 → get_or (drop at s) 1 0 ≡ 0x80 + c / 64 % 64 → (u : Bool) → ltb c 0x4000 ≡ u → 0x3000 < c
      behind c l q r true v = let w = ltb-true c 0x4000 v in let z : get_or s at 0 ≡ 0xE3 = omega (arith, lead s at more, e1, e2) in omega (arith, lead s at more, b, z, e3 z)
      behind c l q r false v = let w = ltb-false c 0x4000 v in omega arith

      third : (c : ℕ) → 0x800 ≤ c → get_or (drop at s) 0 0 ≡ 0xE0 + c / 4096 → get_or (drop at s) 1 0 ≡ 0x80 + c / 64 % 64 → (u : Bool) → ltb c 0x1000 ≡ u → white_space c ≡ false
      third c l q r true v = ink_letter c (omega arith) (let w = ltb-true c 0x1000 v in omega arith)
      third c l q r false v = ink_behind c (behind c (ltb-false c 0x1000 v) q r (ltb c 0x4000) refl)

      of : (c : ℕ) → Octets c (drop at s) → white_space c ≡ false
      of c (one l q) = plain_ink c (omega (arith, lead s at more)) (omega (arith, lead s at more))
      of c (two l m q r) = ink_letter c (omega (arith, lead s at more, c2)) (omega arith)
      of c (three l m q r t) = third c l q r (ltb c 0x1000) refl
      of c (four l m q r t u) = ink_behind c (omega arith)

      pick : (f : Front) → decode (drop at s) ≡ f → (glyph (drop at s)).blank ≡ false
      pick nothing e = rw e
      pick (front c n) e = rw e (of c (octets_of c (drop at s) (drop n (drop at s)) (sound (drop at s) c n e).stands))
