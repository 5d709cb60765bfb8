-- Where a line has ink: an empty line is blank, a damaged one plain, and a formatted one has a non-blank at or after its indent's end.
use Rattle.std.proofs.Common.{Option, Some, None}
use mathlib.Core.Path.{◌≡◌, refl, sym, ap, ◌∙◌}
use mathlib.Core.Bool.{Bool, true, false, cond, ◌||◌}
use mathlib.Core.List.{List, [], ◌∷◌, ◌++◌, append_assoc}
use Prim.Native.Nat.{ℕ, ◌+◌, ◌-◌}
use native.Mathlib.Omega.{arith}
use lib.Dec.{eqb}
use lib.ListN.{length}
use borrow.Author.Tests.{ne_eqb}
use Rattle.lists.specs.Runs.{while, behind, every}
use Rattle.lists.specs.Theorems.All.{All}
use Rattle.lists.proofs.Parts.{while_behind, every_nil, every_behind}
use Rattle.lists.proofs.All.{all_front}
use Rattle.text.specs.Characters.{Glyph, glyphs, is_blank, is_good, extent}
use Rattle.text.proofs.Extents.{Sound, glyphs_sound}
use Rattle.text.proofs.Blanks.{damaged_ink}
use Rattle.text.proofs.Edges.{glyphs_past}
use Rattle.options.specs.Opts.{Opts}
use Rattle.lines.specs.Classes.{glyphs_before, glyphs_from, prefix_found, prefix_size, skip_found, somewhere, shape_at, class_behind, classify}
use Rattle.lines.specs.declared.Shape.{Shape}
use Rattle.lines.specs.declared.Class.TheVariants.{Blank, Plain, Formatted}
use Rattle.lines.proofs.Measures.{from_zero}

pub empty_blank : (o : Opts) → classify o [] ≡ Blank
unfolding classify
empty_blank o = rw (glyphs_past o.glue [] 0 (omega arith), every_nil is_blank)

pub damaged_plain : (o : Opts) (line : List ℕ) → every is_good (glyphs o.glue line) ≡ false → classify o line ≡ Plain
unfolding classify
damaged_plain o line e = rw (damaged_ink (glyphs o.glue line) (glyphs_sound o.glue line) e, e)

-- ---- the glyphs before a place and from it on

pub up_to_from : (place : ℕ) (gs : List Glyph) → glyphs_before place gs ++ glyphs_from place gs ≡ gs
unfolding glyphs_before glyphs_from
up_to_from place [] = refl
up_to_from place (g ∷ gs) = go (eqb place 0) (up_to_from (place - length g.bytes) gs)
  where
    go : (t : Bool) → glyphs_before (place - length g.bytes) gs ++ glyphs_from (place - length g.bytes) gs ≡ gs
        → elim t as (λ b. List Glyph) [ true ↦ [] | false ↦ g ∷ glyphs_before (place - length g.bytes) gs ]
        ++ elim t as (λ b. List Glyph) [ true ↦ g ∷ gs | false ↦ glyphs_from (place - length g.bytes) gs ]
        ≡ g ∷ gs
    go true h = refl
    go false h = ap (λ (l : List Glyph). g ∷ l) h

-- from where some glyphs end: the glyphs after them
pub from_extent : (front rest : List Glyph) → All Sound front → glyphs_from (extent front) (front ++ rest) ≡ rest
unfolding extent glyphs_from
from_extent [] rest s = from_zero rest
from_extent (g ∷ front) rest s =
    let h = s.0.some in
    let k : length g.bytes + extent front - length g.bytes ≡ extent front = omega arith in
    rw (glyphs_from, ne_eqb (length g.bytes + extent front) 0 (λ e. omega arith), k) (from_extent front rest s.1)

-- ---- a formatted line

-- what is at or after the indent's end: the glyphs after the prefix without their leading blanks
from_indent : (o : Opts) (line : List ℕ) (place : ℕ)
    → (let gs = glyphs o.glue line in glyphs_from (shape_at o.tab (prefix_size o.prefix) gs place).indent_end gs ≡ behind is_blank (glyphs_from (place + prefix_size o.prefix) gs))
unfolding shape_at
from_indent o line place =
    let gs = glyphs o.glue line in
    let end = place + prefix_size o.prefix in
    let rest = glyphs_from end gs in
    let parts : glyphs_before end gs ++ while is_blank rest ++ behind is_blank rest ≡ gs = append_assoc (glyphs_before end gs) (while is_blank rest) (behind is_blank rest) ∙ rw while_behind (up_to_from end gs) in
    let sound : All Sound (glyphs_before end gs ++ while is_blank rest) = all_front _ (glyphs_before end gs ++ while is_blank rest) (behind is_blank rest) (rw parts (glyphs_sound o.glue line)) in
    ap (glyphs_from (extent (glyphs_before end gs ++ while is_blank rest))) (sym parts) ∙ from_extent _ (behind is_blank rest) sound

pub formatted_ink : (o : Opts) (line : List ℕ) (s : Shape) → classify o line ≡ Formatted s
    → (every is_blank (glyphs o.glue line) ≡ false) × (every is_blank (glyphs_from s.indent_end (glyphs o.glue line)) ≡ false)
unfolding classify
formatted_ink o line s e = blank (every is_blank gs) (every is_good gs) (prefix_found o.exact_prefix o.prefix line gs) e
  where
    gs : List Glyph
    gs = glyphs o.glue line

    behind_prefix : (place : ℕ) (b c : Bool) → every is_blank (glyphs_from (place + prefix_size o.prefix) gs) ≡ b → cond (b || c) Plain (Formatted (shape_at o.tab (prefix_size o.prefix) gs place)) ≡ Formatted s
        → every is_blank (glyphs_from s.indent_end gs) ≡ false
    behind_prefix place true c h e = cc
    behind_prefix place false true h e = cc
    behind_prefix place false false h e =
        let k : shape_at o.tab (prefix_size o.prefix) gs place ≡ s = cc in
        ap (λ (t : Shape). every is_blank (glyphs_from t.indent_end gs)) (sym k) ∙ ap (every is_blank) (from_indent o line place) ∙ every_behind is_blank (glyphs_from (place + prefix_size o.prefix) gs) ∙ h

    found : (f : Option ℕ) → class_behind o line gs f ≡ Formatted s → every is_blank (glyphs_from s.indent_end gs) ≡ false
    found None e = cc
    found (Some place) e = behind_prefix place _ (somewhere (skip_found o.exact_skip o.skip line gs)) refl e

    blank : (b g : Bool) (f : Option ℕ) → cond b Blank (cond g (class_behind o line gs f) Plain) ≡ Formatted s
        → (b ≡ false) × (every is_blank (glyphs_from s.indent_end gs) ≡ false)
    blank true g f e = (cc, cc)
    blank false true f e = (refl, found f e)
    blank false false f e = (refl, cc)
