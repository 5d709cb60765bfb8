-- How long an indent gets.
use Prim.Native.Nat.{ℕ, ◌+◌, ◌≤◌, ◌^◌}
use mathlib.Core.List.{List}
use native.Mathlib.Omega.{arith}
use lib.ListN.{length, length-append, length-replicate}
use lib.Seq.{length-slice}
use Rattle.pieces.specs.declared.Margin.{Margin}
use Rattle.output.specs.Cited.Writers.{margin_of, MarginIn}

-- an indent is at most as long as the notes and its spaces
pub margin_most : (notes : List ℕ) (m : Margin) → MarginIn (length notes) m → length (margin_of notes m) ≤ length notes + 2 ^ 32
margin_most notes m h =
    let t = length-slice m.start m.end notes h.end in
    simp (length-append, length-replicate) (omega arith)
