-- What accepted options keep to, and where a fault can lie.
use Rattle.std.proofs.Common.{Option, Some, None, Result, Ok, Err}
use mathlib.Core.Path.{◌≡◌, refl, sym, ap, ◌∙◌}
use mathlib.Core.Bool.{Bool, true, false, cond, not, ◌&&◌, ◌||◌, and-false, false≢true}
use mathlib.Core.List.{List}
use Prim.Native.Nat.{ℕ, ◌+◌, ◌-◌, ◌*◌, ◌≤◌, max}
use native.Mathlib.Omega.{arith}
use lib.ListN.{length, take, drop}
use lib.Seq.{slice, length-slice}
use Rattle.lists.specs.Runs.{every}
use Rattle.lists.proofs.Slices.{slice_is}
use Rattle.text.specs.Characters.{characters, is_good}
use Rattle.options.specs.declared.Part.{Part}
use Rattle.options.specs.declared.Options.{Options}
use Rattle.options.specs.declared.Fault.{Fault}
use Rattle.options.specs.OptionBlock.{number, fields, first_fault, part_of, number_at, least_width, fits, bit, options_of, judged, read_block, between}
use Rattle.options.proofs.Values.{number_two, text_true, prefix_true, allowed_tab, allowed_prefix}
use Rattle.options.proofs.Given.{Value, part_value}
use Rattle.options.proofs.Settled.{least_width_law, fits_true}

-- a given prefix: a part of the block, of at most 255 bytes, none of them damaged
pub record Prefix (block : List ℕ) (start end : ℕ) : Type 0 where
  pub ordered : start ≤ end
  pub inside : end ≤ length block
  pub short : end - start ≤ 255
  pub sound : every is_good (characters (slice start end block)) ≡ true

-- what holds of accepted options
pub record Kept (block : List ℕ) (o : Options) : Type 0 where
  pub goal_least : 1 ≤ o.goal
  pub goal_most : o.goal ≤ o.width
  pub width_twice : o.width ≤ 2 * o.goal
  pub width_most : o.width ≤ 1000
  pub tab_least : 1 ≤ o.tab
  pub tab_most : o.tab ≤ 100
  pub split_clears : o.split ≡ true → (o.crown || o.tagged) ≡ false
  pub prefix_given : (start end : ℕ) → o.prefix ≡ between start end → Prefix block start end
  pub skip_given : (start end : ℕ) → o.skip ≡ between start end → Prefix block start end

module _ (block : List ℕ) (start end : ℕ) where
  prefix_value : (tag : ℕ) → 5 ≤ tag → tag ≤ 6 → Value block tag start end → Prefix block start end
  prefix_value tag lo hi v =
      let l = length-slice start end block v.inside in
      let p = prefix_true (slice start end block) (sym (allowed_prefix (slice start end block) tag lo hi) ∙ v.is_allowed) in
      record { ordered = v.ordered; inside = v.inside; short = omega arith; sound = p.1 }

  tab_value : Value block 4 start end → number (drop start block) ≤ 100
  tab_value v =
      let l = length-slice start end block v.inside in
      let n = text_true 0 100 (slice start end block) (sym (allowed_tab (slice start end block)) ∙ v.is_allowed) in
      let e : start + 2 ≡ end = let o = v.ordered in omega arith in
      let s : slice start end block ≡ take 2 (drop start block) = sym (ap (λ (k : ℕ). slice start k block) e) ∙ slice_is start 2 block in
      rw (s, number_two) at n.2

pub accepted_fault : (o : Options) (f : Fault) → Ok o ≡ Err f → ⊥
accepted_fault o f e = let z : ◌≡◌ {A = ℕ} 0 1 = cc in omega arith

tab_most_spec : (block : List ℕ) (p : Option Part) → ((start end : ℕ) → p ≡ between start end → Value block 4 start end) → max 1 (number_at block 8 p) ≤ 100
tab_most_spec block None v = omega arith
tab_most_spec block (Some p) v = let h = tab_value block p.start p.end (v p.start p.end refl) in omega arith

split_clears_spec : (crown tagged split : Bool) → split ≡ true → (crown && not split || tagged && not crown && not split) ≡ false
split_clears_spec crown tagged true e = rw (and-false, and-false)
split_clears_spec crown tagged false e = absurd (false≢true e)

-- whether a block's options keep the width and goal rule
abbrev keeps : List ℕ → Bool
keeps block =
    let fs = fields block in
    let o = options_of block fs in
    fits (least_width (part_of 2 fs) (part_of 3 fs)) o.width o.goal

module _ (block : List ℕ) where
  kept : first_fault (fields block) ≡ None → keeps block ≡ true → Kept block (options_of block (fields block))
  unfolding options_of
  kept f e =
      let r = fits_true _ _ _ e in
      let l = least_width_law (part_of 2 (fields block)) (part_of 3 (fields block)) in
      let flags = number_at block 0 (part_of 1 (fields block)) in
      record {
        goal_least = omega arith;
        goal_most = r.goal_most;
        width_twice = r.width_twice;
        width_most = r.width_most;
        tab_least = omega arith;
        tab_most = tab_most_spec block (part_of 4 (fields block)) (λ start end p. part_value block 4 start end f p);
        split_clears = split_clears_spec (bit 0 flags) (bit 1 flags) (bit 3 flags);
        prefix_given = λ start end p. prefix_value block start end 5 (omega arith) (omega arith) (part_value block 5 start end f p);
        skip_given = λ start end p. prefix_value block start end 6 (omega arith) (omega arith) (part_value block 6 start end f p);
      }

  pub accepted : (o : Options) → read_block block ≡ Ok o → Kept block o
  unfolding read_block
  accepted o e = settle (first_fault (fields block)) refl e
    where
      rule : (t : Bool) → keeps block ≡ t → first_fault (fields block) ≡ None → cond {A = Result Options Fault} t (Ok (options_of block (fields block))) (Err (record { at = length block })) ≡ Ok o → Kept block o
      rule true q f a = let s : options_of block (fields block) ≡ o = cc in rw (← s) (kept f q)
      rule false q f a = absurd (accepted_fault o _ (sym a))

      settle : (f : Option ℕ) → first_fault (fields block) ≡ f → judged block (fields block) f ≡ Ok o → Kept block o
      settle (Some place) q a = absurd (accepted_fault o _ (sym a))
      settle None q a = rule (keeps block) refl q a
