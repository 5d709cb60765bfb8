-- A match on 0, 1, .. is a list's lookup: its last arm is past the list.
use mathlib.Core.Path.{◌≡◌, sym}
use mathlib.Core.List.{List}
use Prim.Native.Nat.{ℕ, ◌≤◌}
use native.Mathlib.Omega.{arith}
use lib.Dec.{T, eqb, eqb→eq}
use lib.ListN.{length, get_or, get_or-eq_default}

-- the last arm is told that x is none of 0 to k - 1
pub outside : {A : Type 0} (xs : List A) (d : A) (k x : ℕ) → T (eqb (length xs) k) → k ≤ x → d ≡ get_or xs x d
outside xs d k x t h = sym (get_or-eq_default xs d (let e = eqb→eq (length xs) k t in omega arith))
