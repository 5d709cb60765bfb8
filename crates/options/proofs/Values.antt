-- Values of fields, test by test: a number within bounds, a prefix, and what the tags of a tab width and of a prefix allow.
use mathlib.Core.Path.{◌≡◌}
use mathlib.Core.Bool.{true, and-true, and-eq-true_iff}
use mathlib.Core.List.{List}
use Prim.Native.Nat.{ℕ, ◌≤◌}
use native.Mathlib.Omega.{arith}
use lib.Dec.{leb-zero}
use lib.ListN.{length, take}
use lib.Seq.{get_or-take}
use borrow.Author.Tests.{leb-true, eqb-true}
use Rattle.lists.specs.Runs.{every}
use Rattle.text.specs.Characters.{characters, is_good}
use Rattle.options.specs.OptionBlock.{number, allowed}
use Rattle.options.specs.Cited.Places.{number_text, prefix_text}

pub number_two : (xs : List ℕ) → number (take 2 xs) ≡ number xs
unfolding number
number_two xs = rw (get_or-take 2 xs 0 0 (omega arith), get_or-take 2 xs 1 0 (omega arith))

-- a number within bounds
module _ (least most : ℕ) (v : List ℕ) where
  pub text_true : number_text least most v ≡ true → (length v ≡ 2) × (least ≤ number v) × (number v ≤ most)
  unfolding number_text
  text_true e =
      let a = (and-eq-true_iff _ _).0 e in
      let b = (and-eq-true_iff _ _).0 a.0 in
      (eqb-true _ _ b.0, leb-true _ _ b.1, leb-true _ _ a.1)

-- a prefix: short, and nowhere damaged
module _ (v : List ℕ) where
  pub prefix_true : prefix_text v ≡ true → (length v ≤ 255) × (every is_good (characters v) ≡ true)
  unfolding prefix_text
  prefix_true e = let b = (and-eq-true_iff _ _).0 e in (leb-true _ _ b.0, b.1)

-- what each tag allows
module _ (v : List ℕ) where
  pub allowed_tab : allowed 4 (length v) v ≡ number_text 0 100 v
  unfolding allowed number_text
  allowed_tab = rw (leb-zero (number v), and-true)

  pub allowed_prefix : (tag : ℕ) → 5 ≤ tag → tag ≤ 6 → allowed tag (length v) v ≡ prefix_text v
  unfolding allowed prefix_text
  allowed_prefix tag lo hi = grind arith
