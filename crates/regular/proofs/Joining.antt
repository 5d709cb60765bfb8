-- Writing the next line's stretch after a line of output that has begun.
use mathlib.Core.Path.{◌≡◌, refl, sym, ap, ◌∙◌}
use mathlib.Core.Bool.{Bool, true, false}
use mathlib.Core.List.{List, ◌++◌}
use Prim.Native.Nat.{ℕ, ◌+◌, ◌-◌, ◌*◌, ◌≤◌, ◌<◌, ◌^◌}
use native.Mathlib.Omega.{arith}
use lib.Dec.{ltb}
use borrow.Author.Tests.{ltb-true, ltb-false}
use lib.ListN.{length, replicate, length-replicate}
use lib.Seq.{slice, length-slice}
use Rattle.lists.proofs.Joins.{slice_join, append_inner}
use Rattle.options.specs.Opts.{Opts}
use Rattle.records.specs.Word.{Word}
use Rattle.spacing.specs.declared.Setting.{Setting}
use Rattle.output.specs.Emission.{line_feed}
use Rattle.output.specs.Cited.Sink.{Wrote, Left}
use Rattle.output.proofs.Sink.{left_first, left_then}
use Rattle.regular.specs.declared.Cut.{Cut}
use Rattle.regular.specs.declared.Reached.{Reached}
use Rattle.regular.specs.Cited.Regular.{stretch_words, lastly, fresh_punct, added, quick_rest, quick_fresh}
use Rattle.regular.specs.Cited.Places.{NoSpace, LastSpace, BeforeSpaces, OverSpaces, Inked, Even, columns_in, Reaches, CutAt, CutIs, Filled, Joined}
use Rattle.regular.proofs.Columns.{columns_size}
use Rattle.regular.proofs.Cuts.{cut_found}
use Rattle.regular.proofs.Fronts.{lastly_append, lastly_some}
use Rattle.regular.proofs.Lines.{next_off, next_cut, next_all}
use Rattle.regular.proofs.Filling.{fresh_counts}

pub left_on : {o₀ o o' : List ℕ} {n₀ n n' : ℕ} {d₀ d d' : List ℕ} → Left o₀ n₀ d₀ o n d → Left o n d o' n' d' → Left o₀ n₀ d₀ o' n' d'
left_on p q = record { count = q.count ∙ p.count; bytes = q.bytes ∙ p.bytes }

added_few : (punct : Bool) → added punct ≤ 2
added_few true = omega arith
added_few false = omega arith

module _ (s : List ℕ) (p e : ℕ) (punct : Bool) (g : Setting) (indent : List ℕ) (column : ℕ) (out : List ℕ) (k : ℕ) (inked : Inked s p e) (even : Even g.uniform s p e) where
  -- all of it stays
  pub join_all : column + added punct + columns_in s p e ≤ g.width → length s ≤ 2 ^ 20
      → (out' out'' : List ℕ) (k' : ℕ) (r : Reached) → Wrote out k (replicate (added punct) 32) out' k' → Wrote out' k' (slice p e s) out'' r.written → r.column ≡ column + added punct + columns_in s p e
      → Joined s p e punct g indent column out k out'' r
  join_all fits size out' out'' k' r spaces wrote at =
      let w = inked.within in
      let b = inked.on in
      let n = length-slice p e s w in
      let m = length-replicate {A = ℕ} (added punct) 32 in
      let few = added_few punct in
      let c = wrote.count in
      let d = spaces.count in
      let z = columns_size s p e w in
      record {
        left = λ o more same. rw at (left_then (left_then (rw (next_all s o g indent same more p e inked even column punct fits) (left_first _ _ _)) spaces) wrote);
        most = omega arith;
        reach = omega arith;
      }

  -- its part from next on begins a line of output
  module _ (next : ℕ) (on : p ≤ next) (some : next < e) (out' : List ℕ) (k' : ℕ) (near : k' ≤ k + (next - p + 1) * 2 ^ 34)
      (left : (o : Opts) (more : List Word) → o.uniform ≡ g.uniform → Left out k (quick_rest g indent column punct (stretch_words o true false (slice p e s) ++ more)) out' k' (quick_fresh g indent true g.indent (stretch_words o false false (slice next e s) ++ more))) where
    pub join_rest : (out'' : List ℕ) (r : Reached) → Filled s next e true g indent g.indent out' k' out'' r → Joined s p e punct g indent column out k out'' r
    join_rest out'' r filled =
        let w = inked.within in
        let n = length-slice next e s w in
        let mark : fresh_punct true (slice next e s) ≡ lastly false (slice p e s) =
        fresh_counts (slice next e s) ∙ lastly_some false (lastly false (slice p next s)) (slice next e s) (omega arith) ∙ sym (lastly_append false (slice p next s) (slice next e s))
        ∙ ap (lastly false) (slice_join p next e s on (omega arith) w) in
        let m = filled.most in
        record {
          left = λ o more same. left_on (left o more same) (rw mark at (filled.left o false false more same));
          most = omega arith;
          reach = let c = filled.reach in omega arith;
        }

  -- some of its words stay, or none
  pub join_cut : (room at : ℕ) (r : Cut) → room ≡ g.width - (column + added punct) → Reaches s p e room at → CutAt s p e at r → r.end ≤ at
      → (out' out'' : List ℕ) (k' k'' : ℕ) → Wrote out k (replicate (added punct) 32) out' k' → Wrote out' k' (slice p r.end s ++ (line_feed ++ indent)) out'' k''
      → (o : Opts) (more : List Word) → o.uniform ≡ g.uniform
      → Left out k (quick_rest g indent column punct (stretch_words o true false (slice p e s) ++ more)) out'' k'' (quick_fresh g indent true g.indent (stretch_words o false false (slice r.next e s) ++ more))
  join_cut room at r is reaches cut by out' out'' k' k'' spaces wrote o more same =
      left_then (left_then (rw (next_cut s o g indent same more p e inked even column punct room at r is reaches cut by, ← append_inner (slice p r.end s) line_feed indent _) (left_first _ _ _)) spaces) wrote

  pub join_off : (room at : ℕ) → room ≡ g.width - (column + added punct) → Reaches s p e room at → ((i : ℕ) → p < i → i ≤ at → NoSpace s i)
      → (out' : List ℕ) (k' : ℕ) → Wrote out k (line_feed ++ indent) out' k'
      → (o : Opts) (more : List Word) → o.uniform ≡ g.uniform
      → Left out k (quick_rest g indent column punct (stretch_words o true false (slice p e s) ++ more)) out' k' (quick_fresh g indent true g.indent (stretch_words o false false (slice p e s) ++ more))
  join_off room at is reaches none out' k' wrote o more same = left_then (rw (next_off s o g indent same more p e inked even column punct room at is reaches none) (left_first _ _ _)) wrote

-- the searches found where it is cut
pub join_found : (s : List ℕ) (p e at q : ℕ) → Inked s p e → p ≤ at → at < e → LastSpace s p at q → (end next : ℕ) → p < q → BeforeSpaces s p q end → OverSpaces s (q + 1) e next → CutAt s p e at (record { end = end; next = next })
join_found s p e at q inked from short last end next l before over = pick (ltb next e) refl
  where
    is_cut : CutIs s p e at (record { end = end; next = next })
    is_cut = cut_found s p e at inked from short q end next last l before over

    pick : (t : Bool) → ltb next e ≡ t → CutAt s p e at (record { end = end; next = next })
    pick true h = is_cut.cut (ltb-true next e h)
    pick false h = let m = last.most in absurd (is_cut.lone (ltb-false next e h) q (omega arith) (omega arith) (last.space l))
