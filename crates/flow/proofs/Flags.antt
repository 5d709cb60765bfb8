-- The flags of a well-formed block: tags ascend, so that theirs is the first field, or there are none.
use Rattle.std.proofs.Common.{Option, Some, None, Ok, Err, Result}
use mathlib.Core.Path.{◌≡◌, refl, sym, ap, ◌∙◌}
use mathlib.Core.Bool.{Bool, true, false, cond, true≢false}
use mathlib.Core.List.{List, [], ◌∷◌}
use Prim.Native.Nat.{ℕ, zero, suc, ◌+◌, ◌*◌, ◌≤◌, ◌<◌}
use native.Mathlib.Omega.{arith}
use lib.Dec.{leb, ltb}
use lib.ListN.{length, get_or, drop}
use lib.Seq.{get_or-drop}
use borrow.Author.Tests.{ltb-true, ltb-false, leb-true, leb-false}
use Rattle.options.specs.OptionBlock.{number, fields, well_formed, first_fault, part_of, number_at, options_of, fits, least_width, judged, read_block, between}
use Rattle.options.specs.Cited.Places.{field_at}
use Rattle.options.specs.declared.Options.{Options}
use Rattle.options.specs.declared.Fault.{Fault}
use Rattle.options.proofs.Fields.{rest, rest_all, well_order, fault_here, fault_later, part_none, part_here, part_later}
use Rattle.std.proofs.lemmas.Option.{none-some}
use Rattle.options.proofs.Accepted.{accepted_fault}
use Rattle.flow.specs.Answers.{flags_of, unfit}
use Rattle.flow.specs.Cited.Sending.{refused_for, shaped}

module _ (block : List ℕ) where
  -- where none is faulty, a field that is there is well formed, and its tag above the one before it
  sound : (at previous : ℕ) → at < length block → first_fault (rest block at previous) ≡ None → well_formed (field_at block at previous) ≡ true
  sound at previous h f = go (well_formed (field_at block at previous)) refl
    where
      go : (t : Bool) → well_formed (field_at block at previous) ≡ t → well_formed (field_at block at previous) ≡ true
      go true e = e
      go false e = absurd (none-some at (sym f ∙ fault_here block at previous h (get_or block at 0) (at + 3 + number (drop (at + 1) block)) refl refl e))

  above : (at previous : ℕ) → at < length block → well_formed (field_at block at previous) ≡ true → previous < get_or block at 0
  above at previous h w = go (leb (get_or block at 0) previous) refl
    where
      go : (t : Bool) → leb (get_or block at 0) previous ≡ t → previous < get_or block at 0
      go true e = absurd (true≢false (sym w ∙ well_order block at previous h (get_or block at 0) (at + 3 + number (drop (at + 1) block)) refl refl (leb-true (get_or block at 0) previous e)))
      go false e = leb-false (get_or block at 0) previous e

  -- after a field there are no flags
  none_behind : (k at previous : ℕ) → length block ≤ at + k → 1 ≤ previous → first_fault (rest block at previous) ≡ None → part_of 1 (rest block at previous) ≡ None
  none_behind zero at previous h p f = part_none block at previous 1 (omega arith)
  none_behind (suc k) at previous h p f = go (ltb at (length block)) refl (none_behind k)
    where
      tag : ℕ
      tag = get_or block at 0

      end : ℕ
      end = at + 3 + number (drop (at + 1) block)

      go : (t : Bool) → ltb at (length block) ≡ t
          → ((i q : ℕ) → length block ≤ i + k → 1 ≤ q → first_fault (rest block i q) ≡ None → part_of 1 (rest block i q) ≡ None)
          → part_of 1 (rest block at previous) ≡ None
      go false e next = part_none block at previous 1 (ltb-false at (length block) e)
      go true e next =
          let i = ltb-true at (length block) e in
          let w = sound at previous i f in
          let a = above at previous i w in
          part_later block at previous i tag end refl refl 1 (λ q. omega (arith, a, p, q))
          ∙ next end tag (omega arith) (omega (arith, a)) (sym (fault_later block at previous i tag end refl refl w) ∙ f)

  module _ (f : first_fault (fields block) ≡ None) where
    fault_none : first_fault (rest block 0 0) ≡ None
    fault_none = ap first_fault (rest_all block) ∙ f

    pub flags_first : get_or block 0 0 ≡ 1 → flags_of block ≡ get_or block 3 0 * 256 + get_or block 4 0
    unfolding flags_of number
    flags_first e =
        let some : 0 < length block = some_of block e in
        let g : part_of 1 (fields block) ≡ between 3 (0 + 3 + number (drop 1 block)) =
        ap (part_of 1) (sym (rest_all block)) ∙ part_here block 0 0 some (get_or block 0 0) (0 + 3 + number (drop 1 block)) refl refl 1 e in
        ap (number_at block 0) g ∙ rw (get_or-drop 3 block 0 0, get_or-drop 3 block 1 0)
      where
        some_of : (xs : List ℕ) → get_or xs 0 0 ≡ 1 → 0 < length xs
        some_of [] h = absurd (omega (arith, h))
        some_of (x ∷ xs) h = omega arith

    pub flags_none : (get_or block 0 0 ≡ 1 → ⊥) → flags_of block ≡ 0
    unfolding flags_of
    flags_none e = ap (number_at block 0) (ap (part_of 1) (sym (rest_all block)) ∙ go (ltb 0 (length block)) refl)
      where
        go : (t : Bool) → ltb 0 (length block) ≡ t → part_of 1 (rest block 0 0) ≡ None
        go false h = part_none block 0 0 1 (ltb-false 0 (length block) h)
        go true h =
            let i = ltb-true 0 (length block) h in
            let w = sound 0 0 i fault_none in
            part_later block 0 0 i (get_or block 0 0) (0 + 3 + number (drop 1 block)) refl refl 1 e
            ∙ none_behind (length block) (0 + 3 + number (drop 1 block)) (get_or block 0 0) (omega arith) (omega (arith, above 0 0 i w)) (sym (fault_later block 0 0 i (get_or block 0 0) (0 + 3 + number (drop 1 block)) refl refl w) ∙ fault_none)

-- ---- what an accepted block has

module _ (block : List ℕ) (o : Options) where
  pub accepted_sound : read_block block ≡ Ok o → first_fault (fields block) ≡ None
  unfolding read_block
  accepted_sound e = go (first_fault (fields block)) e
    where
      go : (f : Option ℕ) → judged block (fields block) f ≡ Ok o → f ≡ None
      go (Some place) a = absurd (accepted_fault o _ (sym a))
      go None a = refl

  pub accepted_are : read_block block ≡ Ok o → o ≡ options_of block (fields block)
  unfolding read_block
  accepted_are e = go (first_fault (fields block)) e
    where
      fitted : (b : Bool) → cond {A = Result Options Fault} b (Ok (options_of block (fields block))) (Err (record { at = length block })) ≡ Ok o → o ≡ options_of block (fields block)
      fitted true k = cc
      fitted false k = cc

      go : (f : Option ℕ) → judged block (fields block) f ≡ Ok o → o ≡ options_of block (fields block)
      go (Some place) k = cc
      go None k = fitted (fits (least_width (part_of 2 (fields block)) (part_of 3 (fields block))) (options_of block (fields block)).width (options_of block (fields block)).goal) k

  accepted_prefix : read_block block ≡ Ok o → o.prefix ≡ part_of 5 (fields block)
  unfolding options_of
  accepted_prefix e = ap (λ (x : Options). x.prefix) (accepted_are e)

  pub accepted_unfit : read_block block ≡ Ok o → shaped (flags_of block) o.prefix ≡ refused_for block
  unfolding unfit refused_for
  accepted_unfit e = rw (e, accepted_prefix e)

pub fault_fits : (block : List ℕ) {fault : Fault} → read_block block ≡ Err fault → false ≡ refused_for block
unfolding refused_for
fault_fits block e = rw e

-- ---- the lowest three bits
