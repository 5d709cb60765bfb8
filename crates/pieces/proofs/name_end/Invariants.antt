use mathlib.Core.Path.{◌≡◌}
use Prim.Native.Nat.{◌+◌}
use lib.ListN.{length, drop}
use Rattle.lists.specs.Runs.{while}
use Rattle.pieces.specs.Cited.Places.{header_name}
use Rattle.pieces.proofs.name_end.Given as goal

abbrev pub invariant-loop-i : goal.invariant-loop-i
invariant-loop-i l = l.i + length (while header_name (drop l.i l.line)) ≡ length (while header_name l.line)
