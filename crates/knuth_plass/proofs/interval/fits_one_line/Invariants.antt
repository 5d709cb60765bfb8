use Rattle.std.proofs.Common.{None}
use mathlib.Core.Path.{◌≡◌}
use Prim.Native.Nat.{ℕ, ◌+◌, ◌*◌, ◌^◌, ◌≤◌, ◌<◌}
use Rattle.records.specs.Cited.Table.{word_in}
use Rattle.knuth_plass.specs.Cited.Interval.{line_room}
use Rattle.knuth_plass.proofs.interval.fits_one_line.Given as goal

abbrev pub invariant-loop-i : goal.invariant-loop-i
invariant-loop-i l =
    (l.line ≤ 2 ^ 31 + l.i * 2 ^ 34)
    × (l.line ≡ l.first + line_room l.work l.i)
    × ((j : ℕ) → j < l.i → (word_in l.work j).before ≡ None)
