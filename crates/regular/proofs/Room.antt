-- Where a stretch has taken so many columns: what ends by that place fits, and a word that goes on behind it does not.
use mathlib.Core.Path.{◌≡◌, refl, ap, ◌∙◌}
use mathlib.Core.Bool.{Bool, true, false}
use mathlib.Core.List.{List, ◌++◌}
use Prim.Native.Nat.{ℕ, ◌+◌, ◌-◌, ◌≤◌, ◌<◌}
use native.Mathlib.Omega.{arith}
use lib.Dec.{ltb}
use lib.ListN.{length}
use lib.Seq.{slice, length-slice}
use borrow.Author.Tests.{ltb-true, ltb-false}
use Rattle.lists.specs.Runs.{while}
use Rattle.lists.proofs.Joins.{slice_join}
use Rattle.regular.specs.declared.Cut.{Cut}
use Rattle.regular.specs.Cited.Regular.{not_space, columns}
use Rattle.regular.specs.Cited.Places.{NoSpace, columns_in, Reaches, CutAt}
use Rattle.regular.proofs.Stretch.{while_all}
use Rattle.regular.proofs.Columns.{columns_append, columns_spaces, columns_join, columns_step}
use Rattle.regular.proofs.Parts.{part_spaces, part_ink}

-- a word at a has at least the columns of its bytes up to m
ink_columns : (s : List ℕ) (a m b : ℕ) → a ≤ m → m ≤ b → b ≤ length s → ((i : ℕ) → a ≤ i → i < m → NoSpace s i) → columns_in s a m ≤ columns (while not_space (slice a b s))
ink_columns s a m b on to w h =
    let e : while not_space (slice a b s) ≡ slice a m s ++ while not_space (slice m b s) =
    rw (slice_join a m b s on to w) at (while_all not_space (slice a m s) (slice m b s) (part_ink s a m (omega arith) h)) in
    rw e (omega (arith, columns_append (slice a m s) (while not_space (slice m b s))))

module _ (s : List ℕ) (p e room at : ℕ) (within : e ≤ length s) (reaches : Reaches s p e room at) where
  past : columns_in s p (at + 1) ≡ room + 1
  past = columns_step s p at (at + 1) refl reaches.on (omega (arith, reaches.most)) ∙ rw (reaches.full, reaches.begins)

  pub room_fits : (end : ℕ) → p ≤ end → end ≤ at → columns_in s p end ≤ room
  room_fits end a b = omega (arith, columns_join s p end at a b (omega (arith, reaches.most)), reaches.full)

  -- a first word that goes on there
  pub room_short : ((i : ℕ) → p ≤ i → i ≤ at → NoSpace s i) → room < columns (while not_space (slice p e s))
  room_short h =
      let m = reaches.most in
      let a = reaches.on in
      omega (arith, past, ink_columns s p (at + 1) e (omega arith) (omega arith) within (λ i x y. h i x (omega arith)))

  -- the word after the cut, with the gap before it
  pub gap_columns : (r : Cut) → CutAt s p e at r → columns_in s r.end r.next ≡ r.next - r.end
  gap_columns r cut =
      let l = cut.rest.on in
      columns_spaces (slice r.end r.next s) (part_spaces s r.end r.next (omega arith) cut.spaces) ∙ length-slice r.end r.next s (omega arith)

  pub room_passed : (r : Cut) → CutAt s p e at r → room < columns_in s p r.end + (r.next - r.end) + columns (while not_space (slice r.next e s))
  room_passed r cut = pick (ltb at r.next) refl
    where
      before : columns_in s p r.next ≡ columns_in s p r.end + (r.next - r.end)
      before =
          let o = cut.on in
          let g = cut.gap in
          let l = cut.rest.on in
          columns_join s p r.end r.next (omega arith) (omega arith) (omega arith) ∙ ap (λ (n : ℕ). columns_in s p r.end + n) (gap_columns r cut)

      pick : (t : Bool) → ltb at r.next ≡ t → room < columns_in s p r.end + (r.next - r.end) + columns (while not_space (slice r.next e s))
      pick true h =
          let k = ltb-true at r.next h in
          let l = cut.rest.on in
          let a = reaches.on in
          omega (arith, before, past, columns_join s p (at + 1) r.next (omega arith) (omega arith) (omega arith))
      pick false h =
          let k = ltb-false at r.next h in
          let m = reaches.most in
          let o = cut.on in
          let g = cut.gap in
          omega (arith, before, past, columns_join s p r.next (at + 1) (omega arith) (omega arith) (omega arith), ink_columns s r.next (at + 1) e (omega arith) (omega arith) within (λ i x y. cut.wide i x (omega arith)))
