-- Writing a stretch on fresh lines: at first, a line of output more, and at last.
use mathlib.Core.Path.{◌≡◌, refl, sym, ap, ◌∙◌}
use mathlib.Core.Bool.{Bool, true, false, or-true}
use mathlib.Core.Logic.{◌⊎◌}
use mathlib.Core.List.{List, ◌++◌}
use Prim.Native.Nat.{ℕ, ◌+◌, ◌-◌, ◌*◌, ◌≤◌, ◌<◌, ◌^◌}
use native.Mathlib.Omega.{arith}
use lib.ListN.{length}
use lib.Seq.{slice, length-slice}
use Rattle.lists.specs.Runs.{every}
use Rattle.lists.proofs.Joins.{slice_join, append_inner}
use Rattle.spacing.specs.declared.Setting.{Setting}
use Rattle.output.specs.Emission.{line_feed}
use Rattle.output.specs.Cited.Sink.{Wrote}
use Rattle.output.proofs.Sink.{left_first, left_then}
use Rattle.regular.specs.declared.Cut.{Cut}
use Rattle.regular.specs.declared.Reached.{Reached}
use Rattle.regular.specs.Cited.Regular.{not_space, lastly, fresh_punct}
use Rattle.regular.specs.Cited.Places.{NoSpace, Inked, Even, columns_in, Reaches, CutAt, Along, Filled}
use Rattle.regular.proofs.EvenParts.{rest_even}
use Rattle.regular.proofs.Columns.{columns_size}
use Rattle.regular.proofs.Fronts.{lastly_append, lastly_some}
use Rattle.regular.proofs.Parts.{part_spaced}
use Rattle.regular.proofs.Lines.{fresh_marks, fresh_cut, fresh_all}

-- with a space in a stretch the first word's punctuation is not its last
fresh_spaced : (counts : Bool) (a : List ℕ) → every not_space a ≡ false → fresh_punct counts a ≡ lastly false a
unfolding fresh_punct
fresh_spaced counts a h = rw (h, or-true counts)

pub fresh_counts : (a : List ℕ) → fresh_punct true a ≡ lastly false a
unfolding fresh_punct
fresh_counts a = refl

module _ (s : List ℕ) (from e : ℕ) (counts : Bool) (g : Setting) (indent : List ℕ) (column : ℕ) (out : List ℕ) (k : ℕ) where
  pub along_first : Inked s from e → Even g.uniform s from e → Along s from e counts g indent column out k from counts column out k
  along_first h even = record {
    inked = h;
    even = even;
    punct = refl;
    left = λ o new_line previous more same. rw (fresh_marks s o g indent same more from e h counts new_line previous column) (left_first _ _ _);
  }

  module _ (p : ℕ) (counts' : Bool) (column' : ℕ) (out' : List ℕ) (k' : ℕ) (along : Along s from e counts g indent column out k p counts' column' out' k') where
    pub along_turn : (room at : ℕ) (r : Cut) → room ≡ g.width - column' → Reaches s p e room at → CutAt s p e at r
        → (out'' : List ℕ) (k'' : ℕ) → Wrote out' k' (slice p r.end s ++ (line_feed ++ indent)) out'' k''
        → Along s from e counts g indent column out k r.next true g.indent out'' k''
    along_turn room at r is reaches cut out'' k'' wrote = record {
      inked = cut.rest;
      even = λ u. let b = cut.on in let c = cut.gap in rest_even s p r.next e (omega arith) cut.rest.on along.inked.within cut.rest.first (along.even u);
      punct = punct;
      left = λ o new_line previous more same.
          left_then
          (rw (fresh_cut s o g indent same more p e along.inked along.even counts' false false column' room at r is reaches cut, ← append_inner (slice p r.end s) line_feed indent _) at (along.left o new_line previous more same))
          wrote;
    }
      where
        punct : fresh_punct true (slice r.next e s) ≡ fresh_punct counts (slice from e s)
        punct =
            let w = along.inked.within in
            let a = cut.on in
            let b = cut.gap in
            let c = cut.rest.on in
            let n = length-slice r.next e s w in
            fresh_counts (slice r.next e s)
            ∙ lastly_some false (lastly false (slice p r.next s)) (slice r.next e s) (omega arith)
            ∙ sym (lastly_append false (slice p r.next s) (slice r.next e s))
            ∙ ap (lastly false) (slice_join p r.next e s (omega arith) (omega arith) w)
            ∙ sym (fresh_spaced counts' (slice p e s) (part_spaced s p e w r.end (omega arith) (omega arith) (cut.spaces r.end (omega arith) b)))
            ∙ along.punct

    pub along_done : (column' + columns_in s p e ≤ g.width) ⊎ ((i : ℕ) → p ≤ i → i < e → NoSpace s i) → from ≤ p → k' ≤ k + (p - from) * 2 ^ 34 → column' ≤ column + g.indent → length s ≤ 2 ^ 20
        → (out'' : List ℕ) (r : Reached) → Wrote out' k' (slice p e s) out'' r.written → r.column ≡ column' + columns_in s p e → Filled s from e counts g indent column out k out'' r
    along_done fits on few near size out'' r wrote is =
        let w = along.inked.within in
        let b = along.inked.on in
        let n = length-slice p e s w in
        let c = wrote.count in
        let m = columns_size s p e w in
        record {
          left = λ o new_line previous more same.
              rw is (left_then (rw (fresh_all s o g indent same more p e along.inked along.even counts' false false column' fits, along.punct) at (along.left o new_line previous more same)) wrote);
          most = omega arith;
          reach = omega arith;
        }
