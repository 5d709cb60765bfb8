-- `regular::are_even` meets its contract. Invariant: the gaps are even if they are from i on, after the bytes p and q.
use mathlib.Core.Path.{◌≡◌, sym, ◌∙◌}
use mathlib.Core.Bool.{true}
use Prim.Native.Nat.{ℕ, suc, ◌+◌, ◌≤◌}
use native.Mathlib.Omega.{arith}
use mathlib.Core.List.{List}
use lib.ListN.{length, get_or}
use lib.Seq.{slice, slice_empty, slice-cons}
use Rattle.regular.specs.Cited.Regular.{is_even, evenly}
use Rattle.regular.proofs.are_even.Goals as goal

step : (s : List ℕ) (i end p q : ℕ) → i + 1 ≤ end → end ≤ length s → is_even p q (get_or s i 0) ≡ true → evenly p q (slice i end s) ≡ evenly q (get_or s i 0) (slice (i + 1) end s)
unfolding evenly
step s i end p q l w h =
    let e : i + 1 ≡ suc i = omega arith in
    rw (slice-cons i end s 0 (omega arith) (omega arith), h, e)

pub loop-i-preserved : goal.loop-i-preserved
loop-i-preserved c =
    let l = c.loop-i in
    let start = c in
    let b = get_or start.args.s.now l.i 0 in
    let even : is_even l.p l.q b ≡ true = sym c.is_even.ensures ∙ c.if-not-is_even.false in
    (omega (arith, l.invariant.0), omega (arith, c.loop-i-test.true), l.invariant.2 ∙ step start.args.s.now l.i start.args.end l.p l.q (omega (arith, c.loop-i-test.true)) start.requires.1 even)

pub returns : goal.returns
unfolding evenly
returns c =
    λ h.
    let l = c.loop-i in
    let e : l.i ≡ c.args.end = omega (arith, l.invariant.1, c.loop-i-test.false) in
    l.invariant.2 ∙ rw (e, slice_empty c.args.end c.args.s.now)
