-- What is after a leading run, by the run's length and by its first element.
use mathlib.Core.Path.{◌≡◌, refl, sym, ap, ◌∙◌}
use mathlib.Core.Bool.{Bool, true, false}
use mathlib.Core.List.{List, [], ◌∷◌}
use Prim.Native.Nat.{ℕ}
use native.Mathlib.Omega.{arith}
use lib.ListN.{length, drop}
use lib.Seq.{drop-append_seam}
use Rattle.lists.specs.Runs.{while, behind}
use Rattle.lists.proofs.Runs.{behind_more, behind_end}
use Rattle.lists.proofs.Parts.{while_behind}

module _ {A : Type 0} (test : A → Bool) where
  pub drop_while : (xs : List A) → drop (length (while test xs)) xs ≡ behind test xs
  drop_while xs = ap (drop (length (while test xs))) (sym (while_behind test xs)) ∙ drop-append_seam (while test xs) (behind test xs)

  pub behind_fails : (xs : List A) {y : A} {ys : List A} → behind test xs ≡ y ∷ ys → test y ≡ false
  unfolding behind
  behind_fails [] e = absurd (let z : ◌≡◌ {A = ℕ} 0 1 = cc in omega arith)
  behind_fails (x ∷ xs) {y} {ys} e = pick (test x) refl (λ q. behind_fails xs q)
    where
      pick : (t : Bool) → test x ≡ t → (behind test xs ≡ y ∷ ys → test y ≡ false) → test y ≡ false
      pick true h rest = rest (sym (behind_more test x xs h) ∙ e)
      pick false h rest = let q = sym (behind_end test x xs h) ∙ e in let z : x ≡ y = cc in rw z at h
