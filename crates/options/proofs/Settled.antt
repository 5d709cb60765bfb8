-- Width and goal: what the rule says, test by test.
use Rattle.std.proofs.Common.{Option, Some, None}
use mathlib.Core.Path.{◌≡◌}
use mathlib.Core.Bool.{true, and-eq-true_iff}
use Prim.Native.Nat.{ℕ, ◌*◌, ◌≤◌}
use native.Mathlib.Omega.{arith}
use borrow.Author.Tests.{leb-true}
use Rattle.options.specs.declared.Part.{Part}
use Rattle.options.specs.OptionBlock.{least_width, fits}

pub record Fits (least width goal : ℕ) : Type 0 where
  pub width_least : least ≤ width
  pub goal_most : goal ≤ width
  pub width_twice : width ≤ 2 * goal
  pub width_most : width ≤ 1000

pub fits_true : (least width goal : ℕ) → fits least width goal ≡ true → Fits least width goal
unfolding fits
fits_true least width goal e =
    let a = (and-eq-true_iff _ _).0 e in
    let b = (and-eq-true_iff _ _).0 a.0 in
    let c = (and-eq-true_iff _ _).0 b.0 in
    record { width_least = leb-true _ _ c.0; goal_most = leb-true _ _ c.1; width_twice = leb-true _ _ b.1; width_most = leb-true _ _ a.1 }

pub least_width_law : (width goal : Option Part) → 1 ≤ least_width width goal
least_width_law None goal = omega arith
least_width_law (Some width) None = omega arith
least_width_law (Some width) (Some goal) = omega arith
