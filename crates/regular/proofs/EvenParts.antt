-- Even gaps by places: of a stretch's front, before the word after a cut, and of the rest.
use mathlib.Core.Path.{◌≡◌}
use mathlib.Core.Bool.{true, false}
use mathlib.Core.List.{List, ◌++◌}
use Prim.Native.Nat.{ℕ, suc, ◌≤◌, ◌<◌}
use native.Mathlib.Omega.{arith}
use lib.ListN.{length, get_or}
use lib.Seq.{slice, length-slice, slice-cons}
use borrow.Author.Tests.{ne_eqb}
use Rattle.lists.proofs.Joins.{slice_join}
use Rattle.regular.specs.declared.Cut.{Cut}
use Rattle.regular.specs.Cited.Regular.{evenly, lastly}
use Rattle.regular.specs.Cited.Places.{NoSpace, CutAt}
use Rattle.regular.proofs.Even.{EvenGap, even_front, even_later, even_behind, even_gap}
use Rattle.regular.proofs.Fronts.{closed_false}
use Rattle.regular.proofs.Parts.{part_spaces, part_closed}

pub front_even : (s : List ℕ) (p m e : ℕ) → p ≤ m → m ≤ e → e ≤ length s → evenly 0 0 (slice p e s) ≡ true → evenly 0 0 (slice p m s) ≡ true
front_even s p m e a b w h = even_front 0 0 (slice p m s) (slice m e s) (rw (slice_join p m e s a b w) h)

pub rest_even : (s : List ℕ) (p next e : ℕ) → p ≤ next → next < e → e ≤ length s → NoSpace s next → evenly 0 0 (slice p e s) ≡ true → evenly 0 0 (slice next e s) ≡ true
rest_even s p next e a b w n h =
    let c = slice-cons next e s 0 b (omega arith) in
    rw c (even_later 0 0 (slice p next s) (get_or s next 0) (slice (suc next) e s) (ne_eqb (get_or s next 0) 32 n) (rw (← c, slice_join p next e s a (omega arith) w) h))

pub gap_even : (s : List ℕ) (p e at : ℕ) (r : Cut) → e ≤ length s → evenly 0 0 (slice p e s) ≡ true → CutAt s p e at r → EvenGap (lastly false (slice p r.end s)) (slice r.end r.next s)
gap_even s p e at r w h cut =
    let o = cut.on in
    let g = cut.gap in
    let l = cut.rest.on in
    let n = length-slice r.end r.next s (omega arith) in
    even_gap (lastly false (slice p r.end s)) (slice r.end r.next s) (slice r.next e s)
    (even_behind 0 0 (slice p r.end s) (slice r.end r.next s ++ slice r.next e s)
    (closed_false (slice p r.end s) (part_closed s p r.end (omega arith) o cut.ends) (omega (arith, length-slice p r.end s (omega arith))))
    (rw (slice_join r.end r.next e s (omega arith) (omega arith) w, slice_join p r.end e s (omega arith) (omega arith) w) h))
    (part_spaces s r.end r.next (omega arith) cut.spaces) (omega arith)
