-- Fields that are read: the value of a tag's field where none is faulty, and the place of the first fault.
use Rattle.std.proofs.Common.{None}
use Rattle.std.proofs.lemmas.Option.{none-some, same_Some}
use mathlib.Core.Path.{◌≡◌, refl, sym, ap, ◌∙◌}
use mathlib.Core.Bool.{Bool, true, false, true≢false}
use mathlib.Core.List.{List}
use Prim.Native.Nat.{ℕ, zero, suc, ◌+◌, ◌-◌, ◌≤◌, ◌<◌}
use native.Mathlib.Omega.{arith}
use lib.Dec.{ltb, eqb}
use lib.ListN.{length, get_or, take, drop}
use lib.Seq.{slice}
use borrow.Author.Tests.{ltb-true, ltb-false, eqb-true, eqb-false}
use Rattle.lists.proofs.Slices.{slice_is}
use Rattle.options.specs.declared.Part.{Part}
use Rattle.options.specs.OptionBlock.{number, fields, allowed, well_formed, first_fault, part_of, between}
use Rattle.options.specs.Cited.Places.{field_at}
use Rattle.options.proofs.Fields.{rest, rest_all, well_order, well_cut, well_value, fault_here, fault_later, part_none, part_here, part_later}

-- the value of a tag's field, as a part of the block
pub record Value (block : List ℕ) (tag start end : ℕ) : Type 0 where
  pub ordered : start ≤ end
  pub inside : end ≤ length block
  pub is_allowed : allowed tag (length (slice start end block)) (slice start end block) ≡ true

-- the value of a well-formed field
module _ (block : List ℕ) (at previous : ℕ) (more : at < length block) (tag end : ℕ) (tags : tag ≡ get_or block at 0) (ends : end ≡ at + 3 + number (drop (at + 1) block))
    (well : well_formed (field_at block at previous) ≡ true) where
  pub ascends : previous < tag
  ascends = pick (ltb previous tag) refl
    where
      pick : (t : Bool) → ltb previous tag ≡ t → previous < tag
      pick true e = ltb-true previous tag e
      pick false e = absurd (true≢false (sym well ∙ well_order block at previous more tag end tags ends (ltb-false previous tag e)))

  whole : end ≤ length block
  whole = pick (ltb (length block) end) refl
    where
      pick : (t : Bool) → ltb (length block) end ≡ t → end ≤ length block
      pick false e = ltb-false (length block) end e
      pick true e = absurd (true≢false (sym well ∙ well_cut block at previous more tag end tags ends ascends (ltb-true (length block) end e)))

  value_of : Value block tag (at + 3) end
  value_of =
      let h : at + 3 ≤ end = omega arith in
      let e : (at + 3) + (end - (at + 3)) ≡ end = omega arith in
      let s : take (end - (at + 3)) (drop (at + 3) block) ≡ slice (at + 3) end block = sym (slice_is (at + 3) (end - (at + 3)) block) ∙ ap (λ (k : ℕ). slice (at + 3) k block) e in
      let w = well_value block at previous more tag end tags ends ascends whole in
      record { ordered = h; inside = whole; is_allowed = rw (s, well) at (sym w) }

-- the fields from a place on, one after the other: none left, a faulty one, or a well-formed one and those after it
data From (block : List ℕ) : ℕ → ℕ → Type 0 where
  none : {at previous : ℕ} → length block ≤ at → From block at previous
  faulty : {at previous : ℕ} → at < length block → well_formed (field_at block at previous) ≡ false → From block at previous
  more : {at previous : ℕ} → at < length block → well_formed (field_at block at previous) ≡ true
      → From block (at + 3 + number (drop (at + 1) block)) (get_or block at 0) → From block at previous

-- one part has one start and one end
pub between_same : (start end from to : ℕ) → between start end ≡ between from to → (start ≡ from) × (end ≡ to)
between_same start end from to h = let e = same_Some _ _ h in (ap (λ (p : Part). p.start) e, ap (λ (p : Part). p.end) e)

module _ (block : List ℕ) where
  from : (k at previous : ℕ) → length block ≤ at + k → From block at previous
  from zero at previous h = none {at = at} (omega arith)
  from (suc k) at previous h = pick (ltb at (length block)) (well_formed (field_at block at previous)) refl refl (from k (at + 3 + number (drop (at + 1) block)) (get_or block at 0) (omega arith))
    where
      pick : (t w : Bool) → ltb at (length block) ≡ t → well_formed (field_at block at previous) ≡ w → From block (at + 3 + number (drop (at + 1) block)) (get_or block at 0)
          → From block at previous
      pick false w l e r = none (ltb-false at (length block) l)
      pick true false l e r = faulty (ltb-true at (length block) l) e
      pick true true l e r = more (ltb-true at (length block) l) e r

  all : From block 0 0
  all = from (length block) 0 0 (omega arith)

  -- where none is faulty, a tag's part is its field's value
  part_from : {at previous : ℕ} (tag start end : ℕ) → From block at previous → first_fault (rest block at previous) ≡ None → part_of tag (rest block at previous) ≡ between start end
      → Value block tag start end
  part_from {at} {previous} tag start end (none h) f e = absurd (none-some _ (sym (part_none block at previous tag h) ∙ e))
  part_from {at} {previous} tag start end (faulty h w) f e = absurd (none-some at (sym f ∙ fault_here block at previous h _ _ refl refl w))
  part_from {at} {previous} tag start end (more h w r) f e = pick (eqb own tag) refl (λ p. part_from tag start end r (sym (fault_later block at previous h own behind refl refl w) ∙ f) p)
    where
      own : ℕ
      own = get_or block at 0

      behind : ℕ
      behind = at + 3 + number (drop (at + 1) block)

      pick : (t : Bool) → eqb own tag ≡ t → (part_of tag (rest block behind own) ≡ between start end → Value block tag start end) → Value block tag start end
      pick false q next = next (sym (part_later block at previous h own behind refl refl tag (eqb-false own tag q)) ∙ e)
      pick true q next =
          let g = part_here block at previous h own behind refl refl tag (eqb-true own tag q) in
          let s = between_same (at + 3) behind start end (sym g ∙ e) in
          rw (← eqb-true own tag q, ← s.0, ← s.1) (value_of block at previous h own behind refl refl w)

  pub part_value : (tag start end : ℕ) → first_fault (fields block) ≡ None → part_of tag (fields block) ≡ between start end → Value block tag start end
  part_value tag start end f e = part_from tag start end all (rw rest_all f) (rw rest_all e)
