use mathlib.Core.Path.{◌≡◌}
use Prim.Native.Nat.{◌-◌}
use lib.ListN.{length}
use Rattle.output.specs.Cited.Writers.{margin_of}
use Rattle.records.specs.Cited.Table.{Holds}
use Rattle.regular.proofs.Words.{Wording}
use Rattle.regular.proofs.put_through.Given as goal

abbrev pub invariant-loop-o : goal.invariant-loop-o
invariant-loop-o l =
    Wording l.s l.start l.end l.mail l.o l.g (margin_of l.s l.indent) l.initial.out l.initial.v.reached l.out l.at l.first l.punct l.v × Holds 16 l.table × (length l.table ≡ length l.initial.table)

abbrev pub decreases-loop-o : goal.decreases-loop-o
decreases-loop-o l = l.end - l.at
