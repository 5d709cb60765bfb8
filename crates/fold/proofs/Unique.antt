-- Two results that keep the promise of folding are equal, and so is every byte of their output.
use Rattle.std.proofs.Common.{Result}
use mathlib.Core.Path.{◌≡◌, sym, ◌∙◌}
use mathlib.Core.List.{List}
use Prim.Native.Nat.{ℕ}
use Rattle.fold.specs.Fold.{FoldAnswer}
use Rattle.fold.specs.Cited.Steps.{Folds}
use Rattle.fold.specs.declared.Unfolded.{Unfolded}

pub folds_unique : (a : FoldAnswer) (out : List ℕ) (r s : Result ℕ Unfolded) (out₁ out₂ : List ℕ) → Folds a out r out₁ → Folds a out s out₂ → (r ≡ s) × (out₁ ≡ out₂)
folds_unique a out r s out₁ out₂ h k = (h.is ∙ sym k.is, h.output ∙ sym k.output)
