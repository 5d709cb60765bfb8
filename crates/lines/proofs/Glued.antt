-- A line's glyphs and its characters: cut at a place, both are cut alike and take the same columns, and U+00A0 after the cut is classed
-- by what is before it.
use mathlib.Core.Path.{◌≡◌, refl, sym, ap, ◌∙◌}
use mathlib.Core.Bool.{Bool, true, false, cond}
use mathlib.Core.List.{List, [], ◌∷◌, ◌++◌}
use Prim.Native.Nat.{ℕ, ◌+◌, ◌-◌}
use native.Mathlib.Omega.{arith}
use lib.Dec.{ltb}
use lib.ListN.{length}
use borrow.Author.Tests.{ltb-true, ltb-false}
use Rattle.text.specs.Characters.{Glyph, ordinary, extent}
use Rattle.text.specs.Cited.Places.{settle, ink_behind, ink_after}
use Rattle.text.proofs.Glue.{settle_none, settle_first}
use Rattle.lines.specs.Classes.{glyphs_before, glyphs_from, column_behind, columns_of}
use Rattle.lines.specs.Cited.Places.{behind_all}
use Rattle.lines.specs.declared.Spot.{Spot}
use Rattle.lines.proofs.Measures.{behind_cons, up_to_zero, up_to_more, from_zero, from_more}

-- a glyph made ordinary takes the same bytes and columns
same_bytes : (t : Bool) (g : Glyph) → (cond t (ordinary g) g).bytes ≡ g.bytes
same_bytes true g = refl
same_bytes false g = refl

same_column : (tab column : ℕ) (t : Bool) (g : Glyph) → column_behind tab column (cond t (ordinary g) g) ≡ column_behind tab column g
unfolding column_behind
same_column tab column true g = refl
same_column tab column false g = refl

from_none : (place : ℕ) → glyphs_from place [] ≡ []
unfolding glyphs_from
from_none place = refl

pub after_none : (ink : Bool) → ink_after ink [] ≡ ink
unfolding ink_after
after_none ink = refl

pub after_cons : (ink : Bool) (g : Glyph) (gs : List Glyph) → ink_after ink (g ∷ gs) ≡ ink_after (ink_behind ink g) gs
unfolding ink_after
after_cons ink g gs = refl

module _ (glue : Bool) where
  pub columns_settle : (tab column : ℕ) (ink : Bool) (gs : List Glyph) → columns_of tab column (settle glue ink gs) ≡ columns_of tab column gs
  unfolding columns_of
  columns_settle tab column ink [] = ap (columns_of tab column) (settle_none glue ink)
  columns_settle tab column ink (g ∷ gs) =
      let v = settle_first glue ink g gs in
      rw v.1 (columns_settle tab (column_behind tab column (cond v.0 (ordinary g) g)) (ink_behind ink g) gs ∙ ap (λ (c : ℕ). columns_of tab c gs) (same_column tab column v.0 g))

  -- cut at a place
  pub before_settle : (tab : ℕ) (m : Spot) (place : ℕ) (ink : Bool) (gs : List Glyph) → behind_all tab m (glyphs_before place (settle glue ink gs)) ≡ behind_all tab m (glyphs_before place gs)
  before_settle tab m place ink [] = ap (λ (l : List Glyph). behind_all tab m (glyphs_before place l)) (settle_none glue ink)
  before_settle tab m place ink (g ∷ gs) = pick (ltb 0 place) refl (λ n p. before_settle tab n p (ink_behind ink g) gs)
    where
      pick : (t : Bool) → ltb 0 place ≡ t → ((n : Spot) (p : ℕ) → behind_all tab n (glyphs_before p (settle glue (ink_behind ink g) gs)) ≡ behind_all tab n (glyphs_before p gs))
          → behind_all tab m (glyphs_before place (settle glue ink (g ∷ gs))) ≡ behind_all tab m (glyphs_before place (g ∷ gs))
      pick true h rest =
          let v = settle_first glue ink g gs in
          let k = ltb-true 0 place h in
          let n : Spot = record { at = m.at + length g.bytes; column = column_behind tab m.column g } in
          rw (v.1, up_to_more place (cond v.0 (ordinary g) g) (settle glue (ink_behind ink g) gs) k, up_to_more place g gs k, same_bytes v.0 g)
          (behind_cons tab m n (cond v.0 (ordinary g) g) _ (rw (same_bytes v.0 g)) (same_column tab m.column v.0 g) ∙ rest n (place - length g.bytes) ∙ sym (behind_cons tab m n g _ refl refl))
      pick false h rest =
          let z : place ≡ 0 = omega (arith, ltb-false 0 place h) in
          rw (z, up_to_zero (settle glue ink (g ∷ gs)), up_to_zero (g ∷ gs))

  pub from_settle : (place : ℕ) (ink : Bool) (gs : List Glyph) → glyphs_from place (settle glue ink gs) ≡ settle glue (ink_after ink (glyphs_before place gs)) (glyphs_from place gs)
  from_settle place ink [] = rw (settle_none glue ink, from_none place, settle_none glue)
  from_settle place ink (g ∷ gs) = pick (ltb 0 place) refl (λ p. from_settle p (ink_behind ink g) gs)
    where
      pick : (t : Bool) → ltb 0 place ≡ t → ((p : ℕ) → glyphs_from p (settle glue (ink_behind ink g) gs) ≡ settle glue (ink_after (ink_behind ink g) (glyphs_before p gs)) (glyphs_from p gs))
          → glyphs_from place (settle glue ink (g ∷ gs)) ≡ settle glue (ink_after ink (glyphs_before place (g ∷ gs))) (glyphs_from place (g ∷ gs))
      pick true h rest =
          let v = settle_first glue ink g gs in
          let k = ltb-true 0 place h in
          rw (v.1, from_more place (cond v.0 (ordinary g) g) (settle glue (ink_behind ink g) gs) k, up_to_more place g gs k, from_more place g gs k, same_bytes v.0 g, after_cons ink g (glyphs_before (place - length g.bytes) gs)) (rest (place - length g.bytes))
      pick false h rest =
          let z : place ≡ 0 = omega (arith, ltb-false 0 place h) in
          rw (z, from_zero (settle glue ink (g ∷ gs)), up_to_zero (g ∷ gs), from_zero (g ∷ gs), after_none ink)

-- cut anywhere: the characters of the front have its extent, and those after it are classed after them
pub record Cut (glue ink : Bool) (gs a b : List Glyph) : Type 0 where
  pub front : List Glyph
  pub back : List Glyph
  pub whole : front ++ back ≡ gs
  pub same : extent front ≡ extent a
  pub rest : b ≡ settle glue (ink_after ink front) back

pub settle_cut : (glue ink : Bool) (gs a b : List Glyph) → a ++ b ≡ settle glue ink gs → Cut glue ink gs a b
unfolding ink_after extent
settle_cut glue ink gs [] b e = record { front = []; back = gs; whole = refl; same = refl; rest = e }
settle_cut glue ink [] (x ∷ a) b e = absurd (let k = e ∙ settle_none glue ink in let z : ◌≡◌ {A = ℕ} 0 1 = cc in omega arith)
settle_cut glue ink (g ∷ gs) (x ∷ a) b e =
    let v = settle_first glue ink g gs in
    let k = e ∙ v.1 in
    let q : x ≡ cond v.0 (ordinary g) g = cc in
    let c = settle_cut glue (ink_behind ink g) gs a b cc in
    let l : length x.bytes ≡ length g.bytes = ap (λ (y : Glyph). length y.bytes) q ∙ ap length (same_bytes v.0 g) in
    record { front = g ∷ c.front; back = c.back; whole = ap (λ (l : List Glyph). g ∷ l) c.whole; same = omega (arith, c.same); rest = c.rest }
