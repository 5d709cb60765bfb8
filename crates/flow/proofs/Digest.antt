-- A paragraph's lines are the digest's: each with a line feed after it, joined, they are what RULES 9 emits.
use mathlib.Core.Path.{◌≡◌, sym}
use mathlib.Core.Bool.{Bool, true}
use mathlib.Core.List.{List, [], ◌∷◌, ◌++◌}
use Prim.Native.Nat.{ℕ, ◌<◌}
use native.Mathlib.Omega.{arith}
use lib.ListN.{length}
use Rattle.lists.specs.Runs.{joined}
use Rattle.records.specs.Word.{Word}
use Rattle.output.specs.Emission.{line_feed, emit}
use Rattle.output.proofs.EmittedLines.{output_is_lines}
use Rattle.flow.specs.Flow.{broken_into}

pub lines_are_emitted : (first indent : List ℕ) (breaks : List Bool) (ws : List Word) → 0 < length ws → joined (λ (line : List ℕ). line ++ line_feed) (broken_into first indent breaks ws) ≡ emit true first indent breaks ws
unfolding broken_into
lines_are_emitted first indent breaks [] h = absurd (omega arith)
lines_are_emitted first indent breaks (w ∷ ws) h = sym (output_is_lines true first indent breaks w ws)
