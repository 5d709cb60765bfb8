-- The part of a table that is still to be read, while entries before it are written.
use mathlib.Core.Path.{◌≡◌}
use mathlib.Core.List.{List, [], ◌∷◌}
use Prim.Native.Nat.{ℕ, ◌+◌, ◌≤◌, ◌<◌}
use native.Mathlib.Numerals.{add-one}
use native.Mathlib.Omega.{arith}
use lib.ListN.{length, take, get_or, set, length-take, drop_of_length-le}
use lib.Seq.{slice, slice-cons, take-set-lt, drop-set-lt}

module _ {A : Type 0} (l : List A) (k n : ℕ) where
  pub slice_here : (d : A) → k < n → n ≤ length l → slice k n l ≡ get_or l k d ∷ slice (k + 1) n l
  slice_here d h g = rw add-one (slice-cons k n l d h g)

  pub slice_none : n ≤ k → slice k n l ≡ []
  slice_none h = drop_of_length-le (take n l) {i = k} (simp length-take (omega arith))

  pub slice_set : (w : ℕ) (x : A) → w < k → w < n → slice k n (set l w x) ≡ slice k n l
  slice_set w x h g = rw (take-set-lt n l w x g) (drop-set-lt k (take n l) w x h)
