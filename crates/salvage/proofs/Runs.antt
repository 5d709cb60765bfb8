-- Runs of bytes that pass a test: one after another, one byte, eight; and a leading run counted from after one.
use mathlib.Core.Path.{◌≡◌, refl, ap, ◌∙◌}
use mathlib.Core.Bool.{Bool, true}
use mathlib.Core.List.{List}
use Prim.Native.Nat.{ℕ, zero, suc, ◌+◌, ◌-◌, ◌≤◌, ◌<◌}
use native.Mathlib.Omega.{arith}
use lib.ListN.{length, get_or, drop}
use Rattle.lists.specs.Runs.{while}
use Rattle.lists.proofs.RunsAt.{run_more as while-one}
use Rattle.text.proofs.Rows.{all_at, all_each}
use Rattle.salvage.specs.Cited.Steps.{Run}

-- by a test of eight bytes
pub run_eight : (test : ℕ → Bool) (s : List ℕ) (i : ℕ) → i + 8 ≤ length s → all_at test s i 7 ≡ true → Run test s i (i + 8)
run_eight test s i h e = record { on = omega arith; within = h; pass = λ k a b. all_each test s i 7 e k a (omega arith) }

-- what is the same at each byte of a run and after it is the same at both ends
pub run_same : {A : Type 0} (at : ℕ → A) (test : ℕ → Bool) (s : List ℕ) (from to : ℕ)
    → ((i : ℕ) → i < length s → test (get_or s i 0) ≡ true → at i ≡ at (i + 1)) → Run test s from to → at from ≡ at to
run_same {A} at test s from to step a = go (to - from) to (omega (arith, a.on)) (omega (arith, a.on))
  where
    go : (n to' : ℕ) → to' ≡ from + n → to' ≤ to → at from ≡ at to'
    go zero to' e h = let q : from ≡ to' = omega arith in ap at q
    go (suc n) to' e h =
        let q : from + n + 1 ≡ to' = omega arith in
        go n (from + n) refl (omega arith) ∙ step (from + n) (omega (arith, a.within)) (a.pass (from + n) (omega arith) (omega arith)) ∙ ap at q

-- the leading run's end, counted from the front of a run and from after it
pub run_while : (test : ℕ → Bool) (s : List ℕ) (from to : ℕ) → Run test s from to → from + length (while test (drop from s)) ≡ to + length (while test (drop to s))
run_while test s from to = run_same (λ i. i + length (while test (drop i s))) test s from to (λ i h e. while-one test 0 s i h e)
