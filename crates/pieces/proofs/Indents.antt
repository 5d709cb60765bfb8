-- A paragraph's indents, as the code's places and as the definition's bytes; and its second line.
use mathlib.Core.Path.{◌≡◌, refl, sym, ap, ◌∙◌}
use mathlib.Core.Bool.{Bool, true, false, cond}
use mathlib.Core.List.{List, [], ◌∷◌, ◌++◌, append-nil}
use Prim.Native.Nat.{ℕ, ◌+◌, ◌≤◌}
use native.Mathlib.Omega.{arith}
use lib.ListN.{length, take, drop, replicate}
use lib.Seq.{slice, take-take}
use Rattle.lists.proofs.Slices.{slice_is}
use Rattle.options.specs.Opts.{Opts}
use Rattle.lines.specs.Lines.{Line}
use Rattle.lines.specs.Classes.{classify}
use Rattle.lines.specs.declared.Shape.{Shape}
use Rattle.lines.specs.declared.Class.{Class}
use Rattle.lines.specs.declared.Class.TheVariants.{Blank, Plain, Formatted}
use Rattle.lines.specs.Cited.Places.{most_columns}
use Rattle.pieces.specs.Pieces.{Indent, second_rule, alone, joins, second_as, second_of, indent_of, widened, no_indent}
use Rattle.pieces.specs.Cited.Places.{margin_at, spaces_at}
use Rattle.pieces.specs.Cited.Bounds.{MarginWithin}
use Rattle.pieces.specs.declared.Margin.{Margin}

-- an indent in places: bytes of the notes, then spaces
pub record MarginIs (notes : List ℕ) (m : Margin) (i : Indent) : Type 0 where
  pub bytes : slice m.start m.end notes ++ replicate m.more 32 ≡ i.bytes
  pub columns : m.columns ≡ i.columns

-- that of a paragraph that stands from at up to next
pub record MarginFound (notes : List ℕ) (at next : ℕ) (m : Margin) (i : Indent) : Type 0 where
  pub is : MarginIs notes m i
  pub inside : MarginWithin at next m

-- ---- indents

widened_none : (i : Indent) → widened i 0 ≡ i
widened_none i =
    let c : i.columns + 0 ≡ i.columns = omega arith in
    rw (append-nil i.bytes, c)

module _ (notes : List ℕ) (at next : ℕ) where
  pub margin_at_law : (a more : ℕ) (text : List ℕ) (s : Shape) → text ≡ slice a (a + length text) notes → s.indent_end ≤ length text → s.indent_length ≤ most_columns
      → at ≤ a → a + length text ≤ next → more ≤ 4 → MarginFound notes at next (margin_at a more s) (widened (indent_of text s) more)
  unfolding indent_of
  margin_at_law a more text s e i c low high m =
      let b : slice a (a + s.indent_end) notes ≡ take s.indent_end text =
      slice_is a s.indent_end notes ∙ sym (take-take s.indent_end (length text) (drop a notes) i) ∙ ap (take s.indent_end) (sym (slice_is a (length text) notes)) ∙ ap (take s.indent_end) (sym e) in
      record {
        is = record { bytes = ap (λ (l : List ℕ). l ++ replicate more 32) b; columns = refl };
        inside = record { low = low; order = omega arith; high = omega arith; more = m; columns = omega arith };
      }

  pub margin_bare : (a : ℕ) (text : List ℕ) (s : Shape) → text ≡ slice a (a + length text) notes → s.indent_end ≤ length text → s.indent_length ≤ most_columns
      → at ≤ a → a + length text ≤ next → MarginFound notes at next (margin_at a 0 s) (indent_of text s)
  margin_bare a text s e i c low high = rw widened_none at (margin_at_law a 0 text s e i c low high (omega arith))

  pub margin_spaces : (n : ℕ) → at ≤ next → n ≤ 4 → MarginFound notes at next (spaces_at at n) (widened no_indent n)
  margin_spaces n h m =
      let z : at + 0 ≡ at = omega arith in
      let b : slice at at notes ≡ [] = rw z at (slice_is at 0 notes) in
      record {
        is = record { bytes = ap (λ (l : List ℕ). l ++ replicate n 32) b; columns = omega arith };
        inside = record { low = omega arith; order = omega arith; high = h; more = m; columns = omega arith };
      }

-- ---- the second line

pub record SecondIs (o : Opts) (ls : List Line) (text : List ℕ) (b : Shape) : Type 0 where
  pub head : Line
  pub tail : List Line
  pub are : ls ≡ head ∷ tail
  pub is : head.text ≡ text
  pub formatted : classify o text ≡ Formatted b

pub second_is : (o : Opts) (s : Shape) (ls : List Line) (text : List ℕ) (b : Shape) → second_of o s ls ≡ joins text b → SecondIs o ls text b
unfolding second_of
second_is o s [] text b e = absurd (let z : ◌≡◌ {A = ℕ} 0 1 = cc in omega arith)
second_is o s (l ∷ ls) text b e = go (classify o l.text) refl e
  where
    join : (t : Bool) (c : Shape) → classify o l.text ≡ Formatted c → cond t (joins l.text c) alone ≡ joins text b → SecondIs o (l ∷ ls) text b
    join true c k h =
        let x : l.text ≡ text = cc in
        let y : c ≡ b = cc in
        record { head = l; tail = ls; are = refl; is = x; formatted = ap (classify o) (sym x) ∙ k ∙ ap Formatted y }
    join false c k h = absurd (let z : ◌≡◌ {A = ℕ} 0 1 = cc in omega arith)

    go : (k : Class) → classify o l.text ≡ k → second_as o s l.text k ≡ joins text b → SecondIs o (l ∷ ls) text b
    go Blank k h = absurd (let z : ◌≡◌ {A = ℕ} 0 1 = cc in omega arith)
    go Plain k h = absurd (let z : ◌≡◌ {A = ℕ} 0 1 = cc in omega arith)
    go (Formatted c) k h = join (second_rule o.tagged s c) c k h
