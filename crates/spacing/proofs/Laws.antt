-- Laws of gap width, the next stop and added space: bounds, and the order of tests that the code has.
use Rattle.std.proofs.Common.{Option, Some, None}
use mathlib.Core.Bool.{Bool, true, false, cond, ◌&&◌, ◌||◌}
use mathlib.Core.Path.{◌≡◌, refl}
use Prim.Native.Nat.{ℕ, ◌+◌, ◌≤◌, ◌<◌}
use native.Mathlib.Nat.{div-add-mod', mod-lt, add-mul, one-mul}
use native.Mathlib.Omega.{arith}
use Rattle.lines.specs.Classes.{next_stop}
use Rattle.records.specs.Cited.Table.{before_number}
use Rattle.spacing.specs.Spacing.{gap_width, added_space}
use Rattle.spacing.specs.Cited.Bounds.{GapIs, AddedIs}

-- the next stop after a column
module _ (tab column : ℕ) (some : 1 ≤ tab) where
  pub stop_behind : column < next_stop tab column
  unfolding next_stop
  stop_behind =
      let e = div-add-mod' column tab in
      let m = mod-lt column some in
      rw (add-mul, one-mul) (omega arith)

  pub stop_near : next_stop tab column ≤ column + tab
  unfolding next_stop
  stop_near =
      let e = div-add-mod' column tab in
      rw (add-mul, one-mul) (omega arith)

-- a gap's width at a column, and its bound
pub gap_most : (tab column : ℕ) (before : Option ℕ) (after : ℕ) → 1 ≤ tab → gap_width tab column before after ≤ after + before_number before + tab
unfolding gap_width
gap_most tab column None after h = omega arith
gap_most tab column (Some n) after h = let s = stop_near tab (n + column) h in omega arith

pub gap_is : (tab column : ℕ) (before : Option ℕ) (after r : ℕ) → 1 ≤ tab → r ≡ gap_width tab column before after → GapIs tab column before after r
gap_is tab column before after r h e = record { is = e; most = rw e (gap_most tab column before after h) }

-- added space, by the tests of the code: first of its line, uniform, neither
pub added_most : (uniform first sentence punct : Bool) → added_space uniform first sentence punct ≤ 2
unfolding added_space
added_most uniform first sentence punct = twice (uniform || first) (sentence || first && punct)
  where
    twice : (a b : Bool) → cond a (cond b 2 1) 0 ≤ 2
    twice true true = omega arith
    twice true false = omega arith
    twice false b = omega arith

pub added_none : (sentence punct : Bool) → added_space false false sentence punct ≡ 0
unfolding added_space
added_none sentence punct = refl

pub added_is : (uniform first sentence punct : Bool) (r : ℕ) → r ≡ added_space uniform first sentence punct → AddedIs uniform first sentence punct r
added_is uniform first sentence punct r e = record { is = e; most = rw e (added_most uniform first sentence punct) }
