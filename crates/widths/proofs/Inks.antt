-- Width and white space at once: what the answer says of a character.
use Rattle.std.proofs.Common.{Some, None}
use mathlib.Core.Path.{◌≡◌, refl, sym, ◌∙◌}
use mathlib.Core.Bool.{Bool, true, false, cond, ◌&&◌, false≢true}
use Prim.Native.Nat.{ℕ, ◌≤◌, ◌<◌}
use native.Mathlib.Omega.{arith}
use lib.Dec.{leb}
use borrow.Author.Tests.{leb-true, leb-false, ne_eqb}
use Rattle.widths.specs.Widths.{width_of}
use Rattle.widths.specs.WhiteSpace.{white_space}
use Rattle.widths.specs.Cited.Forms.{ink_width}

pub ink_blank : (c : ℕ) → None ≡ ink_width c → white_space c ≡ true
unfolding ink_width
ink_blank c e = pick (white_space c) refl e
  where
    pick : (t : Bool) → white_space c ≡ t → None ≡ cond t None (Some (width_of c)) → white_space c ≡ true
    pick true x q = x
    pick false x q = cc

pub ink_not_blank : (c n : ℕ) → Some n ≡ ink_width c → (white_space c ≡ false) × (n ≡ width_of c)
unfolding ink_width
ink_not_blank c n e = pick (white_space c) refl e
  where
    pick : (t : Bool) → white_space c ≡ t → Some n ≡ cond t None (Some (width_of c)) → (white_space c ≡ false) × (n ≡ width_of c)
    pick true x q = cc
    pick false x q = (x, cc)

no_range : (a b c : ℕ) → (a ≤ c → c ≤ b → ⊥) → (leb a c && leb c b) ≡ false
no_range a b c h = pick (leb a c) (leb c b) refl refl
  where
    pick : (t u : Bool) → leb a c ≡ t → leb c b ≡ u → (t && u) ≡ false
    pick false u e f = refl
    pick true false e f = refl
    pick true true e f = absurd (h (leb-true a c e) (leb-true c b f))

-- no white space: from `!` on, but for U+0080 to U+00BF and U+1680 to U+3000
pub ink_at : (c : ℕ) → 33 ≤ c → (0x80 ≤ c → c < 0xC0 → ⊥) → (0x1680 ≤ c → c ≤ 0x3000 → ⊥) → white_space c ≡ false
unfolding white_space
ink_at c h low high =
    rw (
      no_range 9 13 c (λ a b. omega arith),
      ne_eqb c 0x20 (omega arith),
      ne_eqb c 0x85 (λ e. low (omega arith) (omega arith)),
      ne_eqb c 0xA0 (λ e. low (omega arith) (omega arith)),
      ne_eqb c 0x1680 (λ e. high (omega arith) (omega arith)),
      no_range 0x2000 0x200A c (λ a b. high (omega arith) (omega arith)),
      no_range 0x2028 0x2029 c (λ a b. high (omega arith) (omega arith)),
      ne_eqb c 0x202F (λ e. high (omega arith) (omega arith)),
      ne_eqb c 0x205F (λ e. high (omega arith) (omega arith)),
      ne_eqb c 0x3000 (λ e. high (omega arith) (omega arith)),
    )

pub ink_behind : (c : ℕ) → 0x3000 < c → white_space c ≡ false
ink_behind c h = ink_at c (omega arith) (λ a b. omega arith) (λ a b. omega arith)

pub blank_most : (c : ℕ) → white_space c ≡ true → c ≤ 0x3000
blank_most c h = pick (leb c 0x3000) refl
  where
    pick : (t : Bool) → leb c 0x3000 ≡ t → c ≤ 0x3000
    pick true e = leb-true c 0x3000 e
    pick false e = absurd (false≢true (sym (ink_behind c (let l = leb-false c 0x3000 e in omega arith)) ∙ h))

pub inked : (c n : ℕ) → white_space c ≡ false → n ≡ width_of c → Some n ≡ ink_width c
unfolding ink_width
inked c n h e = rw (h, e) refl

pub blank : (c : ℕ) → white_space c ≡ true → None ≡ ink_width c
unfolding ink_width
blank c h = rw h refl

pub far : (c n : ℕ) → 0x3000 < c → n ≡ width_of c → Some n ≡ ink_width c
far c n h e = inked c n (ink_behind c h) e

pub near : (c n : ℕ) → 0x300 ≤ c → c < 0x1680 → n ≡ width_of c → Some n ≡ ink_width c
near c n h k e = inked c n (ink_at c (omega arith) (λ a b. omega arith) (λ a b. omega arith)) e

pub dash : (c : ℕ) → 0x2010 ≤ c → c < 0x2028 → white_space c ≡ false
unfolding white_space
dash c h k =
    rw (
      no_range 9 13 c (λ a b. omega arith),
      ne_eqb c 0x20 (omega arith),
      ne_eqb c 0x85 (omega arith),
      ne_eqb c 0xA0 (omega arith),
      ne_eqb c 0x1680 (omega arith),
      no_range 0x2000 0x200A c (λ a b. omega arith),
      no_range 0x2028 0x2029 c (λ a b. omega arith),
      ne_eqb c 0x202F (omega arith),
      ne_eqb c 0x205F (omega arith),
      ne_eqb c 0x3000 (omega arith),
    )
