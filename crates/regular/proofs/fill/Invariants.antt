use mathlib.Core.Path.{◌≡◌}
use Prim.Native.Nat.{◌+◌, ◌-◌, ◌*◌, ◌≤◌, ◌^◌}
use lib.ListN.{length}
use Rattle.output.specs.Cited.Writers.{margin_of}
use Rattle.regular.specs.Cited.Places.{Along, columns_in}
use Rattle.regular.proofs.fill.Given as goal

abbrev pub invariant-loop-column : goal.invariant-loop-column
invariant-loop-column l =
    (l.from ≤ l.p) × (l.k ≤ l.initial.k + (l.p - l.from) * 2 ^ 34) × (l.column ≤ l.initial.column + l.g.indent) × (length l.out ≡ length l.initial.out) × Along l.s l.from l.e l.counts l.g (margin_of l.s l.indent) l.initial.column l.initial.out l.initial.k l.p l.counting l.column l.out l.k × (l.left ≡ columns_in l.s l.p l.e)

abbrev pub decreases-loop-column : goal.decreases-loop-column
decreases-loop-column l = l.e - l.p
