-- A sign drawn at a column, as the code draws it: each outcome and its stores.
use Rattle.std.proofs.Common.{Option, Some, None}
use mathlib.Core.Path.{◌≡◌, refl}
use mathlib.Core.List.{List}
use Prim.Native.Nat.{ℕ, ◌+◌, ◌≤◌, ◌<◌, min}
use native.Mathlib.Numerals.{add-one}
use native.Mathlib.Omega.{arith}
use lib.ListN.{set}
use borrow.Author.Tests.{le-leb, lt-leb}
use Rattle.lines.specs.Classes.{next_stop}
use Rattle.panel.specs.Panel.{taken, drawn}
use Rattle.panel.specs.Cited.Places.{row_at, step_of}
use Rattle.panel.specs.declared.Sign.{Sign}
use Rattle.panel.specs.declared.Sign.TheVariants.{Tab, Dropped, One, Two}

module _ (tab column : ℕ) (cells : List ℕ) where
  abbrev pub Answered : Sign → Option ℕ → List ℕ → Type 0
  Answered s step after = (step ≡ step_of (drawn tab (row_at column cells) s)) × (after ≡ (drawn tab (row_at column cells) s).cells)

  pub tab_drawn : (s : Sign) (k : ℕ) → s ≡ Tab → k ≡ min 80 (next_stop tab column) → Answered s (Some k) cells
  unfolding step_of drawn
  tab_drawn s k e h = rw (e, h) (refl, refl)

  pub dropped_drawn : (s : Sign) → s ≡ Dropped → column ≤ 80 → Answered s (Some column) cells
  unfolding step_of drawn
  dropped_drawn s e h = let m : min 80 column ≡ column = omega arith in rw (e, m) (refl, refl)

  pub one_over : (s : Sign) (c : ℕ) → s ≡ One c → 80 ≤ column → Answered s None cells
  unfolding step_of drawn taken
  one_over s c e h = rw (e, lt-leb (column + 1) 80 (omega arith)) (refl, refl)

  pub one_drawn : (s : Sign) (c : ℕ) → s ≡ One c → column < 80 → Answered s (Some (column + 1)) (set cells column c)
  unfolding step_of drawn taken
  one_drawn s c e h =
      let m : min 80 (column + 1) ≡ column + 1 = omega arith in
      rw (e, le-leb (column + 1) 80 (omega arith), m) (refl, refl)

  pub two_over : (s : Sign) (c : ℕ) → s ≡ Two c → 79 ≤ column → Answered s None cells
  unfolding step_of drawn taken
  two_over s c e h = rw (e, lt-leb (column + 2) 80 (omega arith)) (refl, refl)

  pub two_drawn : (s : Sign) (c : ℕ) → s ≡ Two c → column < 79 → Answered s (Some (column + 2)) (set (set cells column c) (column + 1) 0)
  unfolding step_of drawn taken
  two_drawn s c e h =
      let m : min 80 (column + 2) ≡ column + 2 = omega arith in
      rw (e, le-leb (column + 2) 80 (omega arith), m, add-one) (refl, refl)
