-- The second line of a crown or tagged paragraph, as the code finds it.
use Rattle.std.proofs.Common.{Option, Some, None}
use Rattle.std.specs.Bool.{then_some}
use mathlib.Core.Path.{◌≡◌, refl, sym, ap, subst, ◌∙◌}
use mathlib.Core.Bool.{Bool, true, false, cond, true≢false}
use mathlib.Core.List.{List}
use Prim.Native.Nat.{ℕ, ◌+◌, ◌≤◌}
use lib.ListN.{length, drop}
use Rattle.options.specs.Opts.{Opts}
use Rattle.lines.specs.Lines.{first_line}
use Rattle.lines.specs.declared.Shape.{Shape}
use Rattle.lines.specs.declared.Class.{Class}
use Rattle.lines.specs.declared.Class.TheVariants.{Blank, Plain, Formatted}
use Rattle.lines.proofs.Lines.{lines_past}
use Rattle.pieces.specs.Pieces.{alone, joins, second_rule, second_as, second_of}
use Rattle.pieces.specs.Cited.Places.{second_place, second_at, LineIs, Joined, SecondSound, joining}
use Rattle.pieces.specs.declared.Second.{Second as SecondAt}
use Rattle.pieces.specs.declared.Classed.{Classed}
use Rattle.pieces.proofs.Following.{Other}

module _ (o : Opts) (a : Shape) (notes : List ℕ) (at : ℕ) where
  pub second_past : length notes ≤ at → None ≡ second_at o a notes at
  unfolding second_at second_of
  second_past h = rw (lines_past notes at h)

  module _ (line : Classed) (here : LineIs o notes at line) where
    place : ℕ
    place = at + length (first_line (drop at notes)).raw

    second_is : second_place place (second_as o a (first_line (drop at notes)).text line.class) ≡ second_at o a notes at
    unfolding second_at second_of place
    second_is = rw (here.first, here.class)

    pub second_other : Other line.class → None ≡ second_at o a notes at
    second_other h = go line.class h refl
      where
        go : (k : Class) → Other k → line.class ≡ k → None ≡ second_at o a notes at
        go Blank n e = ap (λ (k : Class). second_place place (second_as o a (first_line (drop at notes)).text k)) (sym e) ∙ second_is
        go Plain n e = ap (λ (k : Class). second_place place (second_as o a (first_line (drop at notes)).text k)) (sym e) ∙ second_is
        go (Formatted s) n e = absurd n

    module _ (s : Shape) (shape : line.class ≡ Formatted s) where
      shaped : second_place place (cond (second_rule o.tagged a s) (joins (first_line (drop at notes)).text s) alone) ≡ second_at o a notes at
      shaped = ap (λ (k : Class). second_place place (second_as o a (first_line (drop at notes)).text k)) (sym shape) ∙ second_is

      pub second_not : second_rule o.tagged a s ≡ false → None ≡ second_at o a notes at
      second_not h = ap (λ (t : Bool). second_place place (cond t (joins (first_line (drop at notes)).text s) alone)) (sym h) ∙ shaped

      pub second_joins : second_rule o.tagged a s ≡ true → joining line.next s ≡ second_at o a notes at
      unfolding place
      second_joins h = ap (λ (n : ℕ). joining n s) here.next ∙ ap (λ (t : Bool). second_place place (cond t (joins (first_line (drop at notes)).text s) alone)) (sym h) ∙ shaped

      pub second_told : (b : Bool) → second_rule o.tagged a s ≡ b → Joined notes at line.next s
          → (let r : Option SecondAt = then_some b (record { next = line.next; shape = s }) in (r ≡ second_at o a notes at) × SecondSound notes at r)
      second_told true h j = (second_joins h, j)
      second_told false h j = (second_not h, tt)

pub joined_of : (notes : List ℕ) (at : ℕ) (r : Option SecondAt) {second : SecondAt} → SecondSound notes at r → r ≡ Some second → Joined notes at second.next second.shape
joined_of notes at r h e = subst (SecondSound notes at) e h

-- a paragraph that hangs is not split
pub not_split : (split two : Bool) → (split ≡ true → two ≡ false) → two ≡ true → split ≡ false
not_split true two h e = absurd (true≢false (sym e ∙ h refl))
not_split false two h e = refl
