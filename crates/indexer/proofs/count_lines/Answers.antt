-- `indexer::count_lines` meets its contract. Invariant: the lines counted and those that are left are all lines.
use mathlib.Core.Path.{◌≡◌}
use mathlib.Core.List.{List}
use Prim.Native.Nat.{ℕ, ◌+◌, ◌≤◌}
use native.Mathlib.Omega.{arith}
use lib.ListN.{length, drop}
use mathlib.Core.Path.{ap}
use Rattle.lines.specs.Lines.{lines_of}
use Rattle.lines.proofs.Lines.{lines_past, line_lent}
use Rattle.indexer.proofs.count_lines.Goals as goal

no_lines : (s : List ℕ) (at n : ℕ) → length s ≤ at → n + length (lines_of (drop at s)) ≡ length (lines_of s) → n ≡ length (lines_of s)
no_lines s at n h e = let l = ap length (lines_past s at h) in omega (arith, l, e)

pub overflow_add-at : goal.overflow_add-at
overflow_add-at c = let h = line_lent c.args.s.now c.loop-at.at _ c.loop-at-test.true c.first_line-line.ensures in omega (arith, h.within)

pub loop-at-smaller : goal.loop-at-smaller
loop-at-smaller c = let h = line_lent c.args.s.now c.loop-at.at _ c.loop-at-test.true c.first_line-line.ensures in omega (arith, h.within, h.on)

pub loop-at-preserved : goal.loop-at-preserved
loop-at-preserved c =
    let h = line_lent c.args.s.now c.loop-at.at _ c.loop-at-test.true c.first_line-line.ensures in
    let i = c.loop-at.invariant in
    let l = ap length h.first in
    (omega (arith, h.within), omega (arith, l, i.1), omega (arith, h.on, i.2))

pub returns : goal.returns
returns c =
    let i = c.loop-at.invariant in
    (no_lines _ _ _ c.loop-at-test.false i.1, omega (arith, i.0, i.2))
