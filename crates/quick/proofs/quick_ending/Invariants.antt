use mathlib.Core.List.{List}
use mathlib.Core.Path.{◌≡◌}
use Prim.Native.Nat.{ℕ, ◌<◌, ◌^◌}
use lib.ListN.{get_or}
use Rattle.records.specs.Cited.Table.{words_in}
use Rattle.endings.specs.declared.Ending.TheVariants.{Paragraph}
use Rattle.endings.specs.Endings.{endings}
use Rattle.quick.specs.QuickLines.{quick_lines}
use Rattle.quick.proofs.Lines.{ending_from}
use Rattle.quick.proofs.quick_ending.Given as goal

abbrev pub invariant-loop-i : goal.invariant-loop-i
invariant-loop-i l =
    (l.column < 2 ^ 34)
    × ((notes : List ℕ) → ending_from l.g notes l.table l.n l.column l.punct l.i l.left ≡ get_or (endings (quick_lines l.g (words_in notes l.n l.table))) l.line Paragraph)
