-- A text cut before a byte below 0x80, past which no character goes: the characters before the cut are those of their own bytes, and so are
-- those after it. Where the text has no damaged character there is none before that byte, and none after it.
use Rattle.std.proofs.Common.{Option, Some, None}
use mathlib.Core.Path.{◌≡◌, refl, sym, ap, ◌∙◌}
use mathlib.Core.Bool.{Bool, true, false}
use mathlib.Core.List.{List, [], ◌∷◌, ◌++◌, append_assoc}
use Prim.Native.Nat.{ℕ, zero, suc, ◌-◌, ◌≤◌, ◌<◌}
use native.Mathlib.Omega.{arith}
use lib.Dec.{leb}
use lib.ListN.{length, get_or, take, drop, take-append-drop, get_or-append}
use lib.Seq.{take-append-le, take-append_seam, get_or-append_seam}
use borrow.Author.Tests.{leb-true, leb-false}
use Rattle.lists.specs.Theorems.All.{All}
use Rattle.lists.proofs.Extents.{each_append}
use Rattle.text.specs.Rfc3629.{Front, front, nothing, encode, decode}
use Rattle.text.specs.Characters.{Glyph, glyph, characters, damage}
use Rattle.text.proofs.Decoder.{Row, row1, row2, row3, row4, row, sound, complete}
use Rattle.text.proofs.Glyphs.{bytes_of_part}
use Rattle.text.proofs.Damage.{later, or_later, damage_parts}
use Rattle.text.proofs.Asciis.{ascii_one, damage_run}

-- a character at the front of a text is found there with more after the text
pub front_append : (a b : List ℕ) (c n : ℕ) → decode a ≡ front c n → decode (a ++ b) ≡ front c n
front_append a b c n e =
    let d = sound a c n e in
    let s : a ++ b ≡ encode c ++ (drop n a ++ b) = ap (λ (l : List ℕ). l ++ b) d.stands.octets ∙ append_assoc (encode c) (drop n a) b in
    rw (complete c (a ++ b) (drop n a ++ b) (record { is_scalar = d.stands.is_scalar; octets = s }), ← d.count)

-- how many bytes a character has besides its first
abbrev pub cut : List ℕ → ℕ
cut xs = length (glyph xs).bytes - 1

-- ---- before a byte below 0x80

abbrev High : ℕ → Type 0
High b = 0x80 ≤ b

high_at : (xs : List ℕ) (i : ℕ) → All High xs → i < length xs → High (get_or xs i 0)
high_at [] i a h = absurd (omega arith)
high_at (x ∷ xs) zero a h = a.0
high_at (x ∷ xs) (suc i) a h = high_at xs i a.1 (omega arith)

module _ (a : List ℕ) (x : ℕ) (b : List ℕ) (small : x < 0x80) (some : 0 < length a) where
  -- a character that is at the front stands there without that byte
  front_before : (c n : ℕ) → decode (a ++ x ∷ b) ≡ front c n → decode a ≡ front c n
  front_before c n e = go (leb n (length a)) refl
    where
      inside : n ≤ length a → decode a ≡ front c n
      inside h =
          let d = sound (a ++ x ∷ b) c n e in
          let there : take n (a ++ x ∷ b) ≡ encode c = rw d.count (ap (take (length (encode c))) d.stands.octets ∙ take-append_seam (encode c) (drop n (a ++ x ∷ b))) in
          let t : take n a ≡ encode c = sym (take-append-le n a (x ∷ b) h) ∙ there in
          let o : a ≡ encode c ++ drop n a = sym (take-append-drop n a) ∙ ap (λ (l : List ℕ). l ++ drop n a) t in
          rw (complete c a (drop n a) (record { is_scalar = d.stands.is_scalar; octets = o }), ← d.count)

      -- else that byte were one of its octets
      met : length a < n → All High (encode c) → ⊥
      met h high =
          let d = sound (a ++ x ∷ b) c n e in
          let k : length a < length (encode c) = omega (arith, d.count) in
          let q : x ≡ get_or (encode c) (length a) 0 =
          sym (get_or-append_seam a x b 0) ∙ ap (λ (l : List ℕ). get_or l (length a) 0) d.stands.octets ∙ get_or-append (encode c) (drop n (a ++ x ∷ b)) 0 (length a) k in
          omega (arith, high_at (encode c) (length a) high k, q)

      past : length a < n → Row c → ⊥
      past h (row1 k o) = omega (arith, (sound (a ++ x ∷ b) c n e).count, ap length o)
      past h (row2 k l o) = met h (rw o (omega arith, (omega arith, tt)))
      past h (row3 k l o) = met h (rw o (omega arith, (omega arith, (omega arith, tt))))
      past h (row4 k o) = met h (rw o (omega arith, (omega arith, (omega arith, (omega arith, tt)))))

      go : (t : Bool) → leb n (length a) ≡ t → decode a ≡ front c n
      go true t = inside (leb-true n (length a) t)
      go false t = absurd (past (leb-false n (length a) t) (row c))

  glyph_before : glyph (a ++ x ∷ b) ≡ glyph a
  unfolding glyph
  glyph_before = go (decode a) refl (decode (a ++ x ∷ b)) refl
    where
      go : (f : Front) → decode a ≡ f → (g : Front) → decode (a ++ x ∷ b) ≡ g → glyph (a ++ x ∷ b) ≡ glyph a
      go (front c n) e g h = rw (e, front_append a (x ∷ b) c n e, take-append-le n a (x ∷ b) (sound a c n e).within)
      go nothing e (front c n) h = absurd (let q = front_before c n h in let z : ◌≡◌ {A = ℕ} 0 1 = cc in omega arith)
      go nothing e nothing h = rw (e, h, take-append-le 1 a (x ∷ b) some)

pub characters_before : (a : List ℕ) (x : ℕ) (b : List ℕ) → x < 0x80 → characters (a ++ x ∷ b) ≡ characters a ++ characters (x ∷ b)
unfolding characters
characters_before a x b small = each_append cut glyph (λ d. Unit {0}) (x ∷ b) stays a tt
  where
    stays : (d : List ℕ) → Unit {0} → 0 < length d → (glyph (d ++ x ∷ b) ≡ glyph d) × (cut (d ++ x ∷ b) ≡ cut d) × (cut d < length d) × Unit {0}
    stays d u h =
        let y = bytes_of_part d h in
        let e = glyph_before d x b small h in
        (e, ap (λ (q : Glyph). length q.bytes - 1) e, omega (arith, y.some, y.within, y.count), tt)

-- ---- without a damaged character

later_none : (n : ℕ) (f : Option ℕ) → later n f ≡ None → f ≡ None
later_none n (Some place) e = absurd (let z : ◌≡◌ {A = ℕ} 0 1 = cc in omega arith)
later_none n None e = refl

pub none_around : (a : List ℕ) (x : ℕ) (b : List ℕ) → x < 0x80 → damage (a ++ x ∷ b) ≡ None → (damage a ≡ None) × (damage b ≡ None)
none_around a x b small h = go (damage a) refl (sym (damage_parts a (x ∷ b) (characters_before a x b small)) ∙ h)
  where
    behind : damage (x ∷ b) ≡ None → damage b ≡ None
    behind e = later_none 1 (damage b) (sym (damage_run (x ∷ b) 0 1 (ascii_one (omega arith) small)) ∙ ap (later 0) e)

    go : (f : Option ℕ) → damage a ≡ f → or_later (length a) f (damage (x ∷ b)) ≡ None → (damage a ≡ None) × (damage b ≡ None)
    go (Some place) e k = absurd (let z : ◌≡◌ {A = ℕ} 0 1 = cc in omega arith)
    go None e k = (e, behind (later_none (length a) (damage (x ∷ b)) k))
