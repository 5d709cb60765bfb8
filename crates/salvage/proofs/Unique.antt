-- Two results that keep the promise of mending, or of restoring, are equal, and so is every byte of their slices.
use Rattle.std.proofs.Common.{Result}
use mathlib.Core.Path.{◌≡◌, sym, ◌∙◌}
use mathlib.Core.List.{List}
use Prim.Native.Nat.{ℕ}
use Rattle.salvage.specs.Mending.{MendAnswer}
use Rattle.salvage.specs.Restoring.{Back}
use Rattle.salvage.specs.Cited.Steps.{Mends, Restores}
use Rattle.salvage.specs.declared.Unmended.{Unmended}
use Rattle.salvage.specs.declared.Unrestored.{Unrestored}

pub mends_unique : (a : MendAnswer) (copy places bytes : List ℕ) (r s : Result ℕ Unmended) (copy₁ copy₂ places₁ places₂ bytes₁ bytes₂ : List ℕ)
    → Mends a copy places bytes r copy₁ places₁ bytes₁ → Mends a copy places bytes s copy₂ places₂ bytes₂
    → (r ≡ s) × (copy₁ ≡ copy₂) × (places₁ ≡ places₂) × (bytes₁ ≡ bytes₂)
mends_unique a copy places bytes r s copy₁ copy₂ places₁ places₂ bytes₁ bytes₂ h k =
    (h.is ∙ sym k.is, h.copied ∙ sym k.copied, h.placed ∙ sym k.placed, h.kept ∙ sym k.kept)

pub restores_unique : (a : Back) (notes : List ℕ) (r s : Result ℕ Unrestored) (notes₁ notes₂ : List ℕ) → Restores a notes r notes₁ → Restores a notes s notes₂ → (r ≡ s) × (notes₁ ≡ notes₂)
restores_unique a notes r s notes₁ notes₂ h k = (h.is ∙ sym k.is, h.back ∙ sym k.back)
