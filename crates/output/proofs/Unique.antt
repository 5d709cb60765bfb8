-- Two results that keep a writer's promise are equal: every byte of the output, and the place after what was written.
use mathlib.Core.Path.{◌≡◌, sym, ◌∙◌}
use mathlib.Core.List.{List}
use Prim.Native.Nat.{ℕ}
use Rattle.output.specs.Cited.Sink.{Wrote}

pub wrote_unique : (o : List ℕ) (n : ℕ) (d a : List ℕ) (i : ℕ) (b : List ℕ) (j : ℕ) → Wrote o n d a i → Wrote o n d b j → (a ≡ b) × (i ≡ j)
wrote_unique o n d a i b j h k = (h.bytes ∙ sym k.bytes, h.count ∙ sym k.count)
