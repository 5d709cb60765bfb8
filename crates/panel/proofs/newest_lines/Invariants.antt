use mathlib.Core.Path.{◌≡◌}
use Prim.Native.Nat.{◌≤◌}
use lib.ListN.{length}
use Rattle.panel.proofs.Counts.{count_from}
use Rattle.panel.proofs.newest_lines.Given as goal

abbrev pub invariant-loop-last : goal.invariant-loop-last
invariant-loop-last l = (l.last ≤ length l.s) × (l.count ≡ count_from l.s l.last) × (l.count ≤ 24)
