-- Characters of two bytes; and letters of two: what their test says, that none is blank and that each takes one column.
use mathlib.Core.Path.{◌≡◌, refl, sym}
use mathlib.Core.Bool.{Bool, true, false, and-eq-true_iff}
use mathlib.Core.List.{List}
use Prim.Native.Nat.{ℕ, ◌+◌, ◌/◌, ◌≤◌, ◌<◌}
use native.Mathlib.Omega.{arith}
use lib.Dec.{ltb}
use lib.ListN.{length, get_or, drop}
use lib.Seq.{get_or-drop}
use borrow.Author.Tests.{ltb-true, ltb-false, lt-ltb, le-ltb, leb-true, lt-leb, eqb-true, eqb-false, not-true}
use Rattle.widths.specs.Ranges.{width_in}
use Rattle.widths.specs.Table.{table}
use Rattle.widths.specs.Widths.{width_of}
use Rattle.widths.specs.WhiteSpace.{white_space}
use Rattle.widths.proofs.Laws.{one_before_300}
use Rattle.widths.proofs.Inks.{ink_at}
use Rattle.text.specs.Rfc3629.{decode}
use Rattle.text.specs.Cited.Places.{read_as, letter_at, pair_code, Pair, good}
use Rattle.text.proofs.Forms.{lead, is_two}
use Rattle.text.proofs.Glyphs.{Here, char_here}

pub record Letter (s : List ℕ) (at : ℕ) : Type 0 where
  pub within : at + 1 < length s
  pub least : 0xC3 ≤ get_or s at 0
  pub most : get_or s at 0 ≤ 0xD1
  pub no_accent : get_or s at 0 / 2 ≡ 0x66 → ⊥
  pub second : get_or s (at + 1) 0 / 64 ≡ 2

-- from U+00C0 up to U+167F there is no white space
pub ink_letter : (c : ℕ) → 0xC0 ≤ c → c < 0x1680 → white_space c ≡ false
ink_letter c h k = ink_at c (omega arith) (λ a b. omega arith) (λ a b. omega arith)

-- after the accents, up to Cyrillic's own, each character takes one column
one_behind_accents : (c : ℕ) → 0x370 ≤ c → c < 0x483 → width_of c ≡ 1
unfolding width_of width_in table
one_behind_accents c h k = rw (le-ltb c 0x300 (omega arith), lt-leb c 0x36F (omega arith), lt-ltb c 0x483 k, width_in)

module _ (s : List ℕ) (at : ℕ) where
  pub letter_is : letter_at s at ≡ true → Letter s at
  unfolding letter_at
  letter_is e =
      let a = (and-eq-true_iff _ _).0 e in
      let b = (and-eq-true_iff _ _).0 a.1 in
      let c = (and-eq-true_iff _ _).0 b.1 in
      let d = (and-eq-true_iff _ _).0 c.1 in
      record { within = ltb-true _ _ a.0; least = leb-true _ _ b.0; most = leb-true _ _ c.0; no_accent = eqb-false _ _ (not-true _ d.0); second = eqb-true _ _ d.1 }

  module _ (p : Pair s at) where
    pair_char : read_as at (decode (drop at s)) ≡ good (pair_code s at) (at + 2)
    pair_char =
        let first : get_or s at 0 ≡ get_or (drop at s) 0 0 = lead s at (omega (arith, p.within)) in
        let second : get_or s (at + 1) 0 ≡ get_or (drop at s) 1 0 = sym (get_or-drop at s 1 0) in
        sym (is_two at (drop at s) (get_or s at 0) first (get_or s (at + 1) 0) second p.least (omega (arith, p.most)) (pair_code s at) (record { second = p.second; number = refl }))

    pub pair_here : Here (white_space (pair_code s at)) s at (pair_code s at) (at + 2)
    pair_here = char_here s at (pair_code s at) (at + 2) pair_char

  module _ (l : Letter s at) where
    pub letter_least : 0xC0 ≤ pair_code s at
    letter_least = omega (arith, l.least, l.most)

    letter_pair : Pair s at
    letter_pair = record { within = l.within; least = omega (arith, l.least); most = omega (arith, l.most); second = l.second }

    letter_most : pair_code s at < 0x480
    letter_most = omega (arith, l.least, l.most)

    pub letter_width : 1 ≡ width_of (pair_code s at)
    letter_width = pick (ltb (get_or s at 0) 0xCC) (ltb (get_or s at 0) 0xCE) refl refl
      where
        pick : (t u : Bool) → ltb (get_or s at 0) 0xCC ≡ t → ltb (get_or s at 0) 0xCE ≡ u → 1 ≡ width_of (pair_code s at)
        pick true u e f = sym (one_before_300 (pair_code s at) (omega (arith, ltb-true (get_or s at 0) 0xCC e, l.least)))
        pick false true e f = absurd (l.no_accent (omega (arith, ltb-false (get_or s at 0) 0xCC e, ltb-true (get_or s at 0) 0xCE f)))
        pick false false e f = sym (one_behind_accents (pair_code s at) (omega (arith, ltb-false (get_or s at 0) 0xCE f, l.most)) (omega (arith, letter_most)))

    pub letter_here : Here false s at (pair_code s at) (at + 2)
    letter_here = rw (ink_letter (pair_code s at) letter_least (omega (arith, letter_most))) at (pair_here letter_pair)
