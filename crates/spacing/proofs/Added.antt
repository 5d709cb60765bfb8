-- Where spacing is uniform, and before the first word of a line, at least one space is added.
use mathlib.Core.Path.{◌≡◌}
use mathlib.Core.Bool.{Bool, true, false, cond, ◌&&◌, ◌||◌}
use Prim.Native.Nat.{ℕ, ◌<◌}
use native.Mathlib.Omega.{arith}
use Rattle.spacing.specs.Spacing.{added_space}

pub added_some : (uniform new_line sentence_start previousPunct : Bool) → (uniform || new_line) ≡ true → 0 < added_space uniform new_line sentence_start previousPunct
unfolding added_space
added_some uniform new_line sentence_start previousPunct e = rw e (go (sentence_start || new_line && previousPunct))
  where
    go : (two : Bool) → 0 < cond {A = ℕ} two 2 1
    go true = omega arith
    go false = omega arith
