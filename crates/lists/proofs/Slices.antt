-- The part of a list between two places, seen from its first place.
use mathlib.Core.Path.{◌≡◌, sym, ◌∙◌}
use mathlib.Core.List.{List, [], ◌∷◌}
use Prim.Native.Nat.{ℕ, zero, suc, ◌+◌, ◌<◌}
use native.Mathlib.Nat.{zero-add, suc-add}
use lib.ListN.{length, get_or, take, drop}
use lib.Seq.{slice, take-nil}
use Rattle.lists.proofs.Views.{drop_here}

module _ {A : Type 0} where
  pub slice_is : (a n : ℕ) (s : List A) → slice a (a + n) s ≡ take n (drop a s)
  slice_is zero n s = rw zero-add
  slice_is (suc a) n [] = rw suc-add (sym (take-nil n))
  slice_is (suc a) n (x ∷ s) = rw suc-add (slice_is a n s)

  pub slice_one : (d : A) (s : List A) (a : ℕ) → a < length s → slice a (a + 1) s ≡ get_or s a d ∷ []
  slice_one d s a h = slice_is a 1 s ∙ rw (drop_here d s a h)
