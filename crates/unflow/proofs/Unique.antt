-- Two results that keep the promise of reading are equal, and so is every byte of their output.
use Rattle.std.proofs.Common.{Result}
use mathlib.Core.Path.{◌≡◌, sym, ◌∙◌}
use mathlib.Core.List.{List}
use Prim.Native.Nat.{ℕ}
use Rattle.unflow.specs.Unflow.{UnflowAnswer}
use Rattle.unflow.specs.Cited.Steps.{Reads}
use Rattle.unflow.specs.declared.Unread.{Unread}

pub reads_unique : (a : UnflowAnswer) (out : List ℕ) (r s : Result ℕ Unread) (out₁ out₂ : List ℕ) → Reads a out r out₁ → Reads a out s out₂ → (r ≡ s) × (out₁ ≡ out₂)
reads_unique a out r s out₁ out₂ h k = (h.is ∙ sym k.is, h.output ∙ sym k.output)
