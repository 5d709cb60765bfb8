-- The front of a list, and what is after it, by the count of elements that the front really has.
use mathlib.Core.Path.{◌≡◌, refl, sym, ap, ◌∙◌}
use mathlib.Core.List.{List, [], ◌∷◌}
use Prim.Native.Nat.{ℕ, zero, suc, ◌+◌, ◌-◌, ◌≤◌}
use native.Mathlib.Omega.{arith}
use lib.ListN.{length, take, drop, length-drop}
use lib.Seq.{slice, take_all}
use Rattle.lists.proofs.Slices.{slice_is}

module _ {A : Type 0} where
  pub take_counted : (n : ℕ) (xs : List A) → take n xs ≡ take (length (take n xs)) xs
  take_counted zero xs = refl
  take_counted (suc n) [] = refl
  take_counted (suc n) (x ∷ xs) = ap (λ (l : List A). x ∷ l) (take_counted n xs)

  pub drop_counted : (n : ℕ) (xs : List A) → drop n xs ≡ drop (length (take n xs)) xs
  drop_counted zero xs = refl
  drop_counted (suc n) [] = refl
  drop_counted (suc n) (x ∷ xs) = drop_counted n xs

  -- a part as the code hands it on: between two places, and one that reaches to the end
  pub part_between : (a e : ℕ) (xs : List A) → a ≤ e → take (e - a) (drop a xs) ≡ slice a e xs
  part_between a e xs h =
      let k : a + (e - a) ≡ e = omega arith in
      sym (slice_is a (e - a) xs) ∙ rw k

  pub part_to_end : (i : ℕ) (xs : List A) → take (length xs - i) (drop i xs) ≡ drop i xs
  part_to_end i xs = take_all (length xs - i) (drop i xs) (omega (arith, length-drop i xs))
