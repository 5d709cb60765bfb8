-- The part of a tag, taken as its field comes by, and those of all tags: with what is left of the block they are those among all fields.
use Rattle.std.proofs.Common.{Option, Some, None, Err}
use mathlib.Core.Path.{◌≡◌, refl, sym, ap, ap₂, ◌∙◌}
use mathlib.Core.Bool.{Bool, true, false, cond}
use mathlib.Core.List.{List}
use Prim.Native.Nat.{ℕ, ◌+◌, ◌≤◌, ◌<◌}
use native.Mathlib.Omega.{arith}
use lib.Dec.{eqb}
use lib.ListN.{length, get_or, drop}
use borrow.Author.Tests.{eqb-true, eqb-false}
use Rattle.options.specs.declared.Part.{Part}
use Rattle.options.specs.declared.Parts.{Parts}
use Rattle.options.specs.OptionBlock.{Field, number, fields, well_formed, first_fault, part_of, between, judged, read_block}
use Rattle.options.specs.Cited.Places.{field_at, parts_of, parts_with}
use Rattle.options.proofs.Fields.{rest, rest_all, fault_none, fault_here, fault_later, part_none, part_here, part_later}
use Rattle.options.proofs.Given.{ascends}

-- what was taken, or else what is still to come
abbrev found : Option Part → Option Part → Option Part
found None later = later
found (Some part) later = Some part

-- tags ascend: that of a tag that is still to come was not taken
pub record Taken (t : ℕ) (block : List ℕ) (at previous : ℕ) (part : Option Part) : Type 0 where
  pub whole : found part (part_of t (rest block at previous)) ≡ part_of t (fields block)
  pub ahead : previous < t → part ≡ None

pub taken_first : (t : ℕ) (block : List ℕ) (part : Option Part) → part ≡ None → Taken t block 0 0 part
taken_first t block part e = record { whole = ap₂ (λ (p : Option Part) (fs : List Field). found p (part_of t fs)) e (rest_all block); ahead = λ h. e }

pub taken_last : (t : ℕ) (block : List ℕ) (at previous : ℕ) (part : Option Part) → length block ≤ at → Taken t block at previous part → part ≡ part_of t (fields block)
taken_last t block at previous None h k = sym (part_none block at previous t h) ∙ k.whole
taken_last t block at previous (Some part) h k = k.whole

module _ {t : ℕ} {block : List ℕ} {at previous : ℕ} {part : Option Part} (tag end : ℕ) (more : at < length block) (tags : tag ≡ get_or block at 0) (ends : end ≡ at + 3 + number (drop (at + 1) block))
    (well : well_formed (field_at block at previous) ≡ true) (k : Taken t block at previous part) where
  own : tag ≡ t → between (at + 3) end ≡ part_of t (fields block)
  own e =
      let a : part ≡ None = k.ahead (let u = ascends block at previous more tag end tags ends well in omega arith) in
      sym (part_here block at previous more tag end tags ends t e) ∙ ap (λ (p : Option Part). found p (part_of t (rest block at previous))) (sym a) ∙ k.whole

  other : (tag ≡ t → ⊥) → Taken t block end tag part
  other n = record {
    whole = ap (found part) (sym (part_later block at previous more tag end tags ends t n)) ∙ k.whole;
    ahead = λ h. k.ahead (let u = ascends block at previous more tag end tags ends well in omega arith);
  }

  pub taken_then : Taken t block end tag (cond (eqb tag t) (between (at + 3) end) part)
  taken_then = pick (eqb tag t) refl
    where
      pick : (b : Bool) → eqb tag t ≡ b → Taken t block end tag (cond b (between (at + 3) end) part)
      pick true e = let s = eqb-true tag t e in record { whole = own s; ahead = λ h. absurd (omega arith) }
      pick false e = other (eqb-false tag t e)

-- all six: with what is left they are the parts among all fields, and the first fault of the fields left is that of all
pub record Reading (block : List ℕ) (at previous : ℕ) (p : Parts) : Type 0 where
  pub fault : first_fault (rest block at previous) ≡ first_fault (fields block)
  pub flags : Taken 1 block at previous p.flags
  pub width : Taken 2 block at previous p.width
  pub goal : Taken 3 block at previous p.goal
  pub tab : Taken 4 block at previous p.tab
  pub prefix : Taken 5 block at previous p.prefix
  pub skip : Taken 6 block at previous p.skip

pub reading_first : (block : List ℕ) (p : Parts) → p.flags ≡ None → p.width ≡ None → p.goal ≡ None → p.tab ≡ None → p.prefix ≡ None → p.skip ≡ None → Reading block 0 0 p
reading_first block p f w g t x y = record {
  fault = ap first_fault (rest_all block);
  flags = taken_first 1 block p.flags f;
  width = taken_first 2 block p.width w;
  goal = taken_first 3 block p.goal g;
  tab = taken_first 4 block p.tab t;
  prefix = taken_first 5 block p.prefix x;
  skip = taken_first 6 block p.skip y;
}

module _ (block : List ℕ) (at previous : ℕ) (p : Parts) (k : Reading block at previous p) where
  pub reading_more : (tag end : ℕ) → at < length block → tag ≡ get_or block at 0 → end ≡ at + 3 + number (drop (at + 1) block) → well_formed (field_at block at previous) ≡ true
      → (q : Parts) → q ≡ parts_with tag (record { start = at + 3; end = end }) p → Reading block end tag q
  unfolding parts_with
  reading_more tag end more tags ends well q e = rw e (record {
    fault = sym (fault_later block at previous more tag end tags ends well) ∙ k.fault;
    flags = taken_then tag end more tags ends well k.flags;
    width = taken_then tag end more tags ends well k.width;
    goal = taken_then tag end more tags ends well k.goal;
    tab = taken_then tag end more tags ends well k.tab;
    prefix = taken_then tag end more tags ends well k.prefix;
    skip = taken_then tag end more tags ends well k.skip;
  })

  -- a fault is the first
  pub reading_fault : at < length block → well_formed (field_at block at previous) ≡ false → Err (record { at = at }) ≡ read_block block
  unfolding read_block
  reading_fault more bad = ap (judged block (fields block)) (sym (fault_here block at previous more _ _ refl refl bad) ∙ k.fault)

  -- none is left
  module _ (h : length block ≤ at) where
    pub reading_parts : p ≡ parts_of (fields block)
    reading_parts =
        rw (
          ← taken_last 1 block at previous p.flags h k.flags,
          ← taken_last 2 block at previous p.width h k.width,
          ← taken_last 3 block at previous p.goal h k.goal,
          ← taken_last 4 block at previous p.tab h k.tab,
          ← taken_last 5 block at previous p.prefix h k.prefix,
          ← taken_last 6 block at previous p.skip h k.skip,
        )

    pub reading_sound : judged block (fields block) None ≡ read_block block
    unfolding read_block
    reading_sound = ap (judged block (fields block)) (sym (fault_none block at previous h) ∙ k.fault)
