-- A header's name, byte by byte as the code tests it.
use mathlib.Core.Path.{◌≡◌, refl, sym, ap, ◌∙◌}
use mathlib.Core.Bool.{Bool, true, false, not, ◌&&◌}
use Prim.Native.Nat.{ℕ, suc, ◌≤◌, ◌<◌}
use lib.Dec.{ltb, eqb, leb-suc-suc}
use mathlib.Core.List.{List, [], ◌∷◌}
use lib.ListN.{length, get_or}
use Rattle.lists.specs.Runs.{while, every, begins}
use Rattle.lists.proofs.Runs.{while_more, while_end, every_more, every_end}
use Rattle.pieces.specs.Pieces.{printable, no_colon, header_text, from_word}
use borrow.Author.Tests.{le-leb, lt-leb, lt-ltb, ne_eqb}
use native.Mathlib.Omega.{arith}
use mathlib.Core.Bool.{and-false}
use Rattle.pieces.specs.Cited.Places.{header_name}

module _ (b : ℕ) where
  pub name_low : b < 33 → header_name b ≡ false
  name_low h = rw (lt-leb 33 b h)

  pub name_high : 126 < b → header_name b ≡ false
  name_high h = rw (lt-leb b 126 h, and-false)

  pub name_colon : b ≡ 58 → header_name b ≡ false
  name_colon h = rw h

  pub name_more : 33 ≤ b → b ≤ 126 → (b ≡ 58 → ⊥) → header_name b ≡ true
  name_more h k e = rw (le-leb 33 b h, le-leb b 126 k, ne_eqb b 58 e)

-- what is after the name: a colon, or a byte that no name has, or nothing
unfoldable pub behind_name : List ℕ → Bool
behind_name xs = ltb (length (while header_name xs)) (length xs) && eqb (get_or xs (length (while header_name xs)) 0) 58

named : List ℕ → Bool
named xs = ltb (length (while no_colon xs)) (length xs) && every printable (while no_colon xs)

ltb_suc : (m n : ℕ) → ltb (suc m) (suc n) ≡ ltb m n
ltb_suc m n = leb-suc-suc (suc m) n

-- a byte more in front
module _ (b : ℕ) (r : List ℕ) where
  named_more : printable b ≡ true → no_colon b ≡ true → named (b ∷ r) ≡ named r
  unfolding named
  named_more h k = rw (while_more no_colon b r k, every_more printable b (while no_colon r) h, ltb_suc (length (while no_colon r)) (length r))

  behind_more : header_name b ≡ true → behind_name (b ∷ r) ≡ behind_name r
  unfolding behind_name
  behind_more h = rw (while_more header_name b r h, ltb_suc (length (while header_name r)) (length r))

  named_colon : no_colon b ≡ false → named (b ∷ r) ≡ true
  unfolding named every
  named_colon h = rw (while_end no_colon b r h, lt-ltb 0 (suc (length r)) (omega arith))

  named_other : printable b ≡ false → no_colon b ≡ true → named (b ∷ r) ≡ false
  unfolding named
  named_other h k = rw (while_more no_colon b r k, every_end printable b (while no_colon r) h, and-false)

  behind_end : header_name b ≡ false → behind_name (b ∷ r) ≡ eqb b 58
  unfolding behind_name
  behind_end h = rw (while_end header_name b r h, lt-ltb 0 (suc (length r)) (omega arith))

pub not_not : (t u : Bool) → not t ≡ u → t ≡ not u
not_not true u h = ap not h
not_not false u h = ap not h

named_is : (xs : List ℕ) → named xs ≡ behind_name xs
unfolding named behind_name while every
named_is [] = refl
named_is (b ∷ r) = pick (printable b) (no_colon b) refl refl (named_is r)
  where
    pick : (p n : Bool) → printable b ≡ p → no_colon b ≡ n → named r ≡ behind_name r → named (b ∷ r) ≡ behind_name (b ∷ r)
    pick true true h k ih = named_more b r h k ∙ ih ∙ sym (behind_more b r (rw (h, k)))
    pick true false h k ih = named_colon b r k ∙ sym (behind_end b r (rw (h, k)) ∙ not_not (eqb b 58) false k)
    pick false true h k ih = named_other b r h k ∙ sym (behind_end b r (rw h) ∙ not_not (eqb b 58) true k)
    pick false false h k ih = named_colon b r k ∙ sym (behind_end b r (rw h) ∙ not_not (eqb b 58) false k)

abbrev headed : List ℕ → Bool
headed xs = ltb (length (while no_colon xs)) (length xs) && ltb 0 (length (while no_colon xs)) && every printable (while no_colon xs)

and_true : (t : Bool) → t && true ≡ t
and_true true = refl
and_true false = refl

module _ (b : ℕ) (r : List ℕ) where
  headed_more : no_colon b ≡ true → headed (b ∷ r) ≡ named (b ∷ r)
  unfolding named
  headed_more k = rw (while_more no_colon b r k, lt-ltb 0 (suc (length (while no_colon r))) (omega arith), and_true)

  headed_colon : no_colon b ≡ false → headed (b ∷ r) ≡ false
  headed_colon k = rw (while_end no_colon b r k, and-false)

  some_name : header_name b ≡ true → ltb 0 (length (while header_name (b ∷ r))) && behind_name (b ∷ r) ≡ behind_name (b ∷ r)
  some_name h = rw (while_more header_name b r h, lt-ltb 0 (suc (length (while header_name r))) (omega arith))

  no_name : header_name b ≡ false → ltb 0 (length (while header_name (b ∷ r))) && behind_name (b ∷ r) ≡ false
  no_name h = rw (while_end header_name b r h)

headed_is : (xs : List ℕ) → headed xs ≡ ltb 0 (length (while header_name xs)) && behind_name xs
unfolding while
headed_is [] = refl
headed_is (b ∷ r) = pick (printable b) (no_colon b) refl refl
  where
    pick : (p n : Bool) → printable b ≡ p → no_colon b ≡ n → headed (b ∷ r) ≡ ltb 0 (length (while header_name (b ∷ r))) && behind_name (b ∷ r)
    pick true true h k = headed_more b r k ∙ named_is (b ∷ r) ∙ sym (some_name b r (rw (h, k)))
    pick true false h k = headed_colon b r k ∙ sym (no_name b r (rw (h, k)))
    pick false true h k = headed_more b r k ∙ named_other b r h k ∙ sym (no_name b r (rw h))
    pick false false h k = headed_colon b r k ∙ sym (no_name b r (rw h))

-- a header, test by test: n is the place after the name
module _ (line : List ℕ) where
  pub header_from : begins from_word line ≡ true → true ≡ header_text line
  unfolding header_text
  header_from h = rw h

  module _ (other : begins from_word line ≡ false) (n : ℕ) (name : n ≡ length (while header_name line)) where
    pub header_is : ltb 0 n && (ltb n (length line) && eqb (get_or line n 0) 58) ≡ header_text line
    unfolding header_text behind_name
    header_is = rw other (sym (headed_is line ∙ rw (← name) refl))
