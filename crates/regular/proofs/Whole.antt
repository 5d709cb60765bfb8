-- A whole paragraph: what was written is its emission, broken by quick.
use mathlib.Core.Path.{◌≡◌, refl}
use mathlib.Core.Bool.{false}
use mathlib.Core.List.{List, [], ◌∷◌, ◌++◌}
use Prim.Native.Nat.{ℕ, ◌<◌}
use native.Mathlib.Omega.{arith}
use lib.ListN.{length}
use Rattle.records.specs.Word.{Word}
use Rattle.spacing.specs.declared.Setting.{Setting}
use Rattle.output.specs.Emission.{line_feed, emit}
use Rattle.output.specs.Cited.Sink.{Wrote, Left}
use Rattle.output.proofs.Sink.{left_first, left_then, left_last}
use Rattle.quick.specs.Quick.{quick_breaks}
use Rattle.regular.specs.Cited.Regular.{quick_rest, quick_fresh}
use Rattle.regular.proofs.Joining.{left_on}

-- the emission of a paragraph is its first indent and its words on a fresh line
emit_some : (g : Setting) (first indent : List ℕ) (ws : List Word) → 0 < length ws → emit g.uniform first indent (quick_breaks g ws) ws ≡ first ++ quick_fresh g indent false g.first ws
unfolding emit quick_breaks quick_fresh quick_rest
emit_some g first indent [] some = absurd (omega arith)
emit_some g first indent (w ∷ ws) some = refl

pub whole : (g : Setting) (first indent : List ℕ) (ws : List Word) → 0 < length ws → (out out₁ out₂ out₃ : List ℕ) (k k₁ k₂ z : ℕ) → Wrote out k first out₁ k₁ → Left out₁ k₁ (quick_fresh g indent false g.first ws) out₂ k₂ line_feed → Wrote out₂ k₂ line_feed out₃ z
    → Wrote out k (emit g.uniform first indent (quick_breaks g ws) ws) out₃ z
whole g first indent ws some out out₁ out₂ out₃ k k₁ k₂ z begun rows fed = rw (emit_some g first indent ws some) (left_last (left_on (left_then (left_first out k _) begun) rows) fed)
