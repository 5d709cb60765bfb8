-- The fields of a block as the code meets them: those from a place on, the first of them well formed or not, the first fault, a tag's part.
use Rattle.std.proofs.Common.{Some, None}
use mathlib.Core.Path.{◌≡◌, refl, sym, ap, ap₂, ◌∙◌}
use mathlib.Core.Bool.{true, false}
use mathlib.Core.List.{List, [], ◌∷◌}
use Prim.Native.Nat.{ℕ, ◌+◌, ◌-◌, ◌≤◌, ◌<◌}
use native.Mathlib.Omega.{arith}
use lib.ListN.{length, get_or, take, drop, length-take, length-drop}
use lib.Seq.{get_or-drop, drop-drop}
use borrow.Author.Tests.{lt-ltb, le-ltb, le-leb, lt-leb, eq-eqb, ne_eqb}
use Rattle.lists.specs.Walk.{walk}
use Rattle.lists.proofs.Walk.{walk_nil, walk_at}
use Rattle.lists.proofs.Views.{drop_none}
use Rattle.options.specs.OptionBlock.{number, Field, tag_of, size_of, value_of, next_field, fields, allowed, well_formed, first_fault, part_of, between}
use Rattle.options.specs.Cited.Places.{field_at}

-- the first of some fields decides, or the others do
module _ (f : Field) (fs : List Field) where
  fault_first : well_formed f ≡ false → first_fault (f ∷ fs) ≡ Some f.place
  unfolding first_fault
  fault_first e = rw (e, first_fault)

  fault_others : well_formed f ≡ true → first_fault (f ∷ fs) ≡ first_fault fs
  unfolding first_fault
  fault_others e = rw (e, first_fault)

  part_first : (t : ℕ) → tag_of f ≡ t → part_of t (f ∷ fs) ≡ between (f.place + 3) (f.place + 3 + size_of f)
  unfolding part_of
  part_first t e = rw (eq-eqb (tag_of f) t e, part_of)

  part_others : (t : ℕ) → (tag_of f ≡ t → ⊥) → part_of t (f ∷ fs) ≡ part_of t fs
  unfolding part_of
  part_others t e = rw (ne_eqb (tag_of f) t e, part_of)

-- the fields from a place on, after one with the tag `previous`
unfoldable pub rest : List ℕ → ℕ → ℕ → List Field
rest block at previous = walk next_field (record { place = at; previous = previous }) (drop at block)

pub rest_all : (block : List ℕ) → rest block 0 0 ≡ fields block
unfolding rest fields
rest_all block = refl

module _ (block : List ℕ) (at previous : ℕ) where
  tag_is : tag_of (field_at block at previous) ≡ get_or block at 0
  unfolding tag_of
  tag_is = let z : at + 0 ≡ at = omega arith in rw (get_or-drop at block 0 0, z)

  size_is : size_of (field_at block at previous) ≡ number (drop (at + 1) block)
  unfolding size_of
  size_is = rw (drop-drop 1 at block)

  pub rest_none : length block ≤ at → rest block at previous ≡ []
  unfolding rest
  rest_none h = rw (drop_none 0 block at h, walk_nil)

  pub fault_none : length block ≤ at → first_fault (rest block at previous) ≡ None
  unfolding first_fault
  fault_none h = rw (rest_none h)

  pub part_none : (t : ℕ) → length block ≤ at → part_of t (rest block at previous) ≡ None
  unfolding part_of
  part_none t h = rw (rest_none h)

  -- a field: its tag, and where it ends
  module _ (more : at < length block) (tag end : ℕ) (tags : tag ≡ get_or block at 0) (ends : end ≡ at + 3 + number (drop (at + 1) block)) where
    pub rest_here : rest block at previous ≡ field_at block at previous ∷ rest block end tag
    unfolding rest next_field
    rest_here =
        let s = size_is in
        let f : Field = field_at block at previous in
        walk_at next_field (record { place = at; previous = previous }) block at end more (omega arith)
        ∙ ap₂ (λ (p t : ℕ). f ∷ walk next_field (record { place = p; previous = t }) (drop end block)) (omega arith) (tag_is ∙ sym tags)

    pub well_order : tag ≤ previous → well_formed (field_at block at previous) ≡ false
    unfolding well_formed
    well_order h = rw (tag_is, ← tags, le-ltb previous tag h)

    pub well_cut : previous < tag → length block < end → well_formed (field_at block at previous) ≡ false
    unfolding well_formed
    well_cut h k =
        let d = length-drop at block in
        rw (tag_is, ← tags, lt-ltb previous tag h, size_is, lt-leb (3 + number (drop (at + 1) block)) (length (drop at block)) (omega arith))

    pub well_value : previous < tag → end ≤ length block
        → well_formed (field_at block at previous) ≡ allowed tag (length (take (end - (at + 3)) (drop (at + 3) block))) (take (end - (at + 3)) (drop (at + 3) block))
    unfolding well_formed value_of
    well_value h k =
        let n = number (drop (at + 1) block) in
        let d = length-drop at block in
        let e = length-drop (at + 3) block in
        let m : end - (at + 3) ≡ n = omega arith in
        let l : length (take n (drop (at + 3) block)) ≡ n = rw length-take (omega arith) in
        rw (tag_is, ← tags, lt-ltb previous tag h, size_is, le-leb (3 + n) (length (drop at block)) (omega arith), m, l, drop-drop 3 at block)

    pub fault_here : well_formed (field_at block at previous) ≡ false → first_fault (rest block at previous) ≡ Some at
    fault_here e = rw rest_here (fault_first _ _ e)

    pub fault_later : well_formed (field_at block at previous) ≡ true → first_fault (rest block at previous) ≡ first_fault (rest block end tag)
    fault_later e = rw rest_here (fault_others _ _ e)

    pub part_here : (t : ℕ) → tag ≡ t → part_of t (rest block at previous) ≡ between (at + 3) end
    part_here t e =
        let s = size_is in
        rw rest_here (part_first _ _ t (tag_is ∙ sym tags ∙ e) ∙ ap (λ (n : ℕ). between (at + 3) n) (omega arith))

    pub part_later : (t : ℕ) → (tag ≡ t → ⊥) → part_of t (rest block at previous) ≡ part_of t (rest block end tag)
    part_later t h = rw rest_here (part_others _ _ t (λ e. h (tags ∙ sym tag_is ∙ e)))
