-- `knuth_plass::interval::fits_one_line` meets its contract. Invariant: the words so far have no tab, and take so much of the line.
use Rattle.std.proofs.Common.{None}
use mathlib.Core.Path.{◌≡◌}
use Prim.Native.Nat.{ℕ}
use native.Mathlib.Omega.{arith}
use Rattle.records.specs.Cited.Table.{word_in}
use Rattle.knuth_plass.proofs.Line.{no_tab}
use Rattle.knuth_plass.proofs.Intervals.{room_none, room_more, below_next}
use Rattle.knuth_plass.proofs.interval.fits_one_line.Goals as goal

pub loop-i-init : goal.loop-i-init
loop-i-init c = let p = c.requires in let f = p.0 in let z = room_none c.args.work.now in (omega arith, omega arith, λ j h. absurd (omega arith))

pub loop-i-preserved : goal.loop-i-preserved
loop-i-preserved c =
    let l = c.loop-i in
    let v = l.invariant in
    let u = v.0 in
    let sum = v.1 in
    let t = c.loop-i-test.true in
    let got = c.get-w.ensures in
    let a = got.small.after in
    let w = got.small.width in
    let table = c.args.work.now in
    let plain : (word_in table l.i).before ≡ None = rw (← got.is) (no_tab _ _ c.is_some.ensures c.if-is_some.false) in (
      omega arith,
      rw (sum, got.is, room_more table l.i) (omega arith),
      below_next (λ (j : ℕ). (word_in table j).before ≡ None) l.i v.2 plain,
    )
