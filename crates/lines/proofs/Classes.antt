-- The class of a line, test by test, from what the code finds.
use Rattle.std.proofs.Common.{Option, Some, None}
use mathlib.Core.Path.{◌≡◌, refl, sym, ap, ◌∙◌}
use mathlib.Core.Bool.{Bool, true, false, or-true, or-false}
use mathlib.Core.List.{List, ◌++◌}
use Prim.Native.Nat.{ℕ, ◌+◌, ◌<◌}
use native.Mathlib.Omega.{arith}
use lib.Dec.{eqb}
use lib.ListN.{length, get_or, take}
use borrow.Author.Tests.{eq-eqb, ne_eqb}
use Rattle.lists.specs.Runs.{while, every}
use Rattle.text.specs.Characters.{Glyph, characters, glyphs, is_blank, is_good, extent}
use Rattle.text.specs.Cited.Places.{settle}
use Rattle.text.proofs.Glue.{glyphs_settle}
use Rattle.options.specs.Opts.{Opts, Text, absent, given}
use Rattle.lines.specs.Lines.{body, without_return, first_line}
use Rattle.lines.specs.Classes.{glyphs_before, glyphs_from, columns_of, search, prefix_found, prefix_size, skip_found, somewhere, shape_at, class_behind, classify}
use Rattle.lines.specs.Cited.Places.{lengths_of, classed_of, line_start, behind_all, class_at, BehindBlanks, BehindPlace, ink_before, glyphs_behind}
use Rattle.lines.specs.declared.Extent.{Extent}
use Rattle.lines.specs.declared.ClassedExtent.{ClassedExtent}
use Rattle.lines.specs.declared.Spot.{Spot}
use Rattle.lines.specs.declared.Shape.{Shape}
use Rattle.lines.specs.declared.Class.{Class}
use Rattle.lines.specs.declared.Class.TheVariants.{Blank, Plain, Formatted}
use Rattle.lines.proofs.Lines.{lengths, body_feed, return_none, line_fed}
use Rattle.lines.proofs.Glued.{before_settle, from_settle}
use Rattle.lines.proofs.Turns.{all_past}
use Rattle.lines.proofs.Measures.{behind_none, behind_append, up_to_zero, from_zero}

-- ---- shapes

from_start : (tab : ℕ) (gs : List Glyph) → behind_all tab line_start gs ≡ record { at = extent gs; column = columns_of tab 0 gs }
unfolding behind_all
from_start tab gs = ap (λ (n : ℕ). record { at = n; column = columns_of tab 0 gs }) (omega arith)

module _ (tab size : ℕ) (gs : List Glyph) (place : ℕ) (m r : Spot) where
  -- from the spots at the prefix's end and after the blanks there
  pub shape_is : m ≡ behind_all tab line_start (glyphs_before (place + size) gs) → r ≡ behind_all tab m (while is_blank (glyphs_from (place + size) gs))
      → ◌≡◌ {A = Shape} (record { prefix_place = place; indent_end = r.at; indent_length = r.column; prefix_length = m.column }) (shape_at tab size gs place)
  unfolding shape_at
  shape_is e f =
      let front = glyphs_before (place + size) gs in
      let blanks = while is_blank (glyphs_from (place + size) gs) in
      let f' : r ≡ record { at = extent (front ++ blanks); column = columns_of tab 0 (front ++ blanks) } =
      f ∙ ap (λ (x : Spot). behind_all tab x blanks) e ∙ sym (behind_append tab line_start front blanks) ∙ from_start tab (front ++ blanks) in
      rw (e ∙ from_start tab front, f')

-- without a prefix
pub shape_bare : (tab : ℕ) (gs : List Glyph) (r : Spot) → r ≡ behind_all tab line_start (while is_blank gs)
    → ◌≡◌ {A = Shape} (record { prefix_place = 0; indent_end = r.at; indent_length = r.column; prefix_length = 0 }) (shape_at tab 0 gs 0)
shape_bare tab gs r e = shape_is tab 0 gs 0 line_start r (rw up_to_zero (behind_none tab line_start)) (rw from_zero e)

-- ---- classes

-- a prefix that is found, and the spots at its end and after the blanks there
module _ (glue : Bool) (tab size place : ℕ) (line : List ℕ) (m r : Spot) (f : Option ℕ)
    (found : f ≡ Some place) (b : BehindPlace tab line (place + size) m) (w : BehindBlanks tab line (glyphs_behind glue line (place + size) m.at) m r) where
  -- the line's glyphs before the prefix's end, and from it on
  spot_before : m ≡ behind_all tab line_start (glyphs_before (place + size) (glyphs glue line))
  spot_before = b.spot ∙ sym (before_settle glue tab line_start (place + size) false (characters line)) ∙ ap (λ (gs : List Glyph). behind_all tab line_start (glyphs_before (place + size) gs)) (sym (glyphs_settle glue line))

  rest : glyphs_behind glue line (place + size) m.at ≡ glyphs_from (place + size) (glyphs glue line)
  unfolding ink_before
  rest = ap (settle glue (ink_before (place + size) line)) b.rest ∙ sym (from_settle glue (place + size) false (characters line)) ∙ ap (glyphs_from (place + size)) (sym (glyphs_settle glue line))

  blank_behind : every is_blank (glyphs_from (place + size) (glyphs glue line)) ≡ eqb r.at (length line)
  blank_behind = rw (← rest) w.blank

  pub class_ended : r.at ≡ length line → Plain ≡ class_at tab size (glyphs glue line) f
  class_ended h = rw (found, blank_behind, eq-eqb r.at (length line) h)

  pub class_shaped : (r.at ≡ length line → ⊥)
      → Formatted (record { prefix_place = place; indent_end = r.at; indent_length = r.column; prefix_length = m.column }) ≡ class_at tab size (glyphs glue line) f
  class_shaped h =
      rw (found, blank_behind, ne_eqb r.at (length line) h)
      (ap Formatted (shape_is tab size (glyphs glue line) place m r spot_before (rw rest at w.spot)))

module _ (o : Opts) (line : List ℕ) where
  pub class_blank : every is_blank (glyphs o.glue line) ≡ true → Blank ≡ classify o line
  unfolding classify
  class_blank h = rw h

  module _ (ink : every is_blank (glyphs o.glue line) ≡ false) where
    pub class_damaged : every is_good (glyphs o.glue line) ≡ false → Plain ≡ classify o line
    unfolding classify
    class_damaged e = rw (ink, e)

    module _ (good : every is_good (glyphs o.glue line) ≡ true) where
      pub class_skipped : somewhere (skip_found o.exact_skip o.skip line (glyphs o.glue line)) ≡ true → Plain ≡ classify o line
      unfolding classify
      class_skipped e = rw (ink, good) (pick (prefix_found o.exact_prefix o.prefix line (glyphs o.glue line)))
        where
          pick : (f : Option ℕ) → Plain ≡ class_behind o line (glyphs o.glue line) f
          pick None = refl
          pick (Some place) = rw (e, or-true (every is_blank (glyphs_from (place + prefix_size o.prefix) (glyphs o.glue line))))

      module _ (unskipped : somewhere (skip_found o.exact_skip o.skip line (glyphs o.glue line)) ≡ false) where
        class_prefixed : class_at o.tab (prefix_size o.prefix) (glyphs o.glue line) (prefix_found o.exact_prefix o.prefix line (glyphs o.glue line)) ≡ classify o line
        unfolding classify
        class_prefixed = rw (ink, good) (pick (prefix_found o.exact_prefix o.prefix line (glyphs o.glue line)))
          where
            pick : (f : Option ℕ) → class_at o.tab (prefix_size o.prefix) (glyphs o.glue line) f ≡ class_behind o line (glyphs o.glue line) f
            pick None = refl
            pick (Some place) = rw (unskipped, or-false (every is_blank (glyphs_from (place + prefix_size o.prefix) (glyphs o.glue line))))

        class_with : (t : Text) → o.prefix ≡ t → class_at o.tab (prefix_size t) (glyphs o.glue line) (prefix_found o.exact_prefix t line (glyphs o.glue line)) ≡ classify o line
        class_with t h = ap (λ (u : Text). class_at o.tab (prefix_size u) (glyphs o.glue line) (prefix_found o.exact_prefix u line (glyphs o.glue line))) (sym h) ∙ class_prefixed

        -- without a prefix, from the spot after the line's first blanks
        pub class_bare : (r : Spot) → o.prefix ≡ absent → r ≡ behind_all o.tab line_start (while is_blank (glyphs o.glue line))
            → Formatted (record { prefix_place = 0; indent_end = r.at; indent_length = r.column; prefix_length = 0 }) ≡ classify o line
        class_bare r h e = ap Formatted (shape_bare o.tab (glyphs o.glue line) r e) ∙ rw (from_zero (glyphs o.glue line), ink) at (class_with absent h)

        pub class_given : (p : List ℕ) (k : Class) → o.prefix ≡ given p
            → k ≡ class_at o.tab (length p) (glyphs o.glue line) (search o.exact_prefix p line 0 (glyphs o.glue line)) → k ≡ classify o line
        class_given p k h e = e ∙ class_with (given p) h

-- the first line with its class, from the two answers
pub classed_is : (o : Opts) (s : List ℕ) (e : Extent) (k : Class) → e ≡ lengths_of (first_line s) → k ≡ classify o (take e.text s)
    → ◌≡◌ {A = ClassedExtent} (record { extent = e; class = k }) (classed_of o (first_line s))
unfolding classed_of
classed_is o s e k h q = rw (q ∙ ap (classify o) (sym (lengths s e h).text), h)

-- an empty line is blank
pub classed_empty : (o : Opts) (s : List ℕ) → 0 < length s → get_or s 0 0 ≡ 10 → ◌≡◌ {A = ClassedExtent} (record { extent = record { text = 0; whole = 1 }; class = Blank }) (classed_of o (first_line s))
classed_empty o s h e =
    let b : 0 ≡ length (body s) = let f = body_feed s 0 h e in omega (arith, f) in
    let n : 0 ≡ length (without_return (take 0 s)) = sym (return_none (take 0 s) refl) in
    classed_is o s (record { text = 0; whole = 1 }) Blank (line_fed s 0 b 0 h n) (class_blank o (take 0 s) (all_past o.glue (take 0 s) 0 (omega arith)))
