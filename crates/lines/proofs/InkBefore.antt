-- What is before a place, read from the line's start; and the margin: whether U+00A0 at its end is ordinary, and else only blanks there
-- are looked for.
use mathlib.Core.Path.{◌≡◌, refl, sym, ap, ◌∙◌}
use mathlib.Core.Bool.{Bool, true, false, not, ◌&&◌, and-eq-true_iff}
use mathlib.Core.List.{List, ◌∷◌, ◌++◌, map}
use Prim.Native.Nat.{ℕ, ◌+◌, ◌-◌, ◌≤◌, ◌<◌}
use native.Mathlib.Nat.{sub-zero}
use native.Mathlib.Omega.{arith}
use lib.Dec.{ltb}
use lib.ListN.{length, drop}
use borrow.Author.Tests.{ltb-true, ltb-false, eq-eqb, ne_eqb}
use Rattle.lists.specs.Runs.{while}
use Rattle.lists.proofs.Runs.{while_more, while_end, every_end}
use Rattle.text.specs.Characters.{Glyph, glyph, characters, no_break, ordinary, ink_ahead, glyphs, is_blank, extent}
use Rattle.text.specs.Cited.Places.{ink_glyphs, ink_behind, ink_after, no_break_at}
use Rattle.text.proofs.Glyphs.{Here, DamagedHere}
use Rattle.text.proofs.Glue.{behind_run, behind_other, glyphs_settle}
use Rattle.text.proofs.NoBreaks.{no_break_here, no_break_other, ink_past}
use Rattle.text.proofs.Edges.{ink_off, ink_begins, ink_edge, run_on}
use Rattle.lines.specs.Classes.{glyphs_before}
use Rattle.lines.specs.Cited.Places.{Inside, BehindBlanks, ink_before, glyphs_behind, glued_at}
use Rattle.lines.specs.declared.Spot.{Spot}
use Rattle.lines.proofs.Measures.{behind_none, up_to_zero, up_to_more}
use Rattle.lines.proofs.Glued.{after_none, after_cons}

-- ---- what is left to read up to the place, after ink or not, decides what the whole does

pub record InkLeft (line : List ℕ) (place i : ℕ) (ink : Bool) : Type 0 where
  pub within : i ≤ length line
  pub rest : ink_after ink (glyphs_before (place - i) (characters (drop i line))) ≡ ink_before place line

module _ (line : List ℕ) (place : ℕ) where
  pub left_first : InkLeft line place 0 false
  unfolding ink_before
  left_first = record { within = omega arith; rest = rw (sub-zero place) }

  module _ (i : ℕ) (ink : Bool) (l : InkLeft line place i ink) where
    pub left_last : place ≤ i → ink ≡ ink_before place line
    left_last h =
        let e : place - i ≡ 0 = omega arith in
        sym (after_none ink) ∙ rw (e, up_to_zero (characters (drop i line))) at l.rest

    module _ (h : i < place) where
      left_on : (next : ℕ) (t : Bool) → i < next → next ≤ length line → characters (drop i line) ≡ glyph (drop i line) ∷ characters (drop next line)
          → length (glyph (drop i line)).bytes ≡ next - i → ink_behind ink (glyph (drop i line)) ≡ t → InkLeft line place next t
      left_on next t on w e c b =
          let g = glyph (drop i line) in
          let cs = characters (drop next line) in
          let d : (place - i) - length g.bytes ≡ place - next = omega arith in
          record { within = w; rest = sym (rw (e, up_to_more (place - i) g cs (omega arith), after_cons ink g (glyphs_before ((place - i) - length g.bytes) cs), b, d)) ∙ l.rest }

      pub left_run : no_break_at line i ≡ true → InkLeft line place (i + 2) ink
      left_run n =
          let g = no_break_here line i n in
          left_on (i + 2) ink g.on g.within g.first g.count (behind_run ink (glyph (drop i line)) (eq-eqb _ _ g.has_code))

      module _ (k : i < length line) (n : no_break_at line i ≡ false) where
        other : (t : Bool) → (glyph (drop i line)).blank ≡ t → ink_behind ink (glyph (drop i line)) ≡ not t
        other t b = behind_other ink (glyph (drop i line)) (no_break_other line i k n) ∙ ap not b

        pub left_char : {t : Bool} {code next : ℕ} → Here t line i code next → InkLeft line place next (not t)
        left_char {t} {code} {next} g = left_on next (not t) g.on g.within g.first g.count (other t g.is_blank)

        pub left_damaged : DamagedHere line i → InkLeft line place (i + 1) true
        left_damaged g = left_on (i + 1) true (omega arith) (omega arith) g.first (ap length g.has_bytes ∙ omega arith) (other false g.is_blank)

-- ---- an ordinary U+00A0 where the prefix ends

module _ (glue : Bool) (line : List ℕ) (end at : ℕ) where
  pub glued_off : glue ≡ false → false ≡ glued_at glue line end at
  unfolding glued_at
  glued_off o = rw o

  module _ (o : glue ≡ true) where
    pub glued_other : no_break_at line at ≡ false → false ≡ glued_at glue line end at
    unfolding glued_at
    glued_other n = rw (o, n)

    module _ (n : no_break_at line at ≡ true) where
      pub glued_edge : ink_ahead (characters (drop at line)) ≡ false → false ≡ glued_at glue line end at
      unfolding glued_at
      glued_edge a = rw (o, n, a)

      pub glued_ink : ink_ahead (characters (drop at line)) ≡ true → ink_before end line ≡ glued_at glue line end at
      unfolding glued_at
      glued_ink a = rw (o, n, a)

module _ (line : List ℕ) (end at : ℕ) where
  -- if none stands there, the line goes on as at an edge
  no_break_edge : (glue : Bool) → no_break_at line at ≡ false → ink_glyphs glue (drop at line) ≡ glyphs glue (drop at line)
  no_break_edge glue n = within (ltb at (length line)) refl
    where
      within : (t : Bool) → ltb at (length line) ≡ t → ink_glyphs glue (drop at line) ≡ glyphs glue (drop at line)
      within true h = ink_begins glue line at (no_break_other line at (ltb-true at (length line) h) n)
      within false h = ink_edge glue line at (sym (ink_past line at (ltb-false at (length line) h)))

  pub margin_edge : (glue : Bool) → glued_at glue line end at ≡ false → glyphs_behind glue line end at ≡ glyphs glue (drop at line)
  unfolding glued_at ink_glyphs
  margin_edge glue e = pick glue (ink_before end line) (no_break_at line at) (ink_ahead (characters (drop at line))) refl refl refl refl
    where
      pick : (u b n a : Bool) → glue ≡ u → ink_before end line ≡ b → no_break_at line at ≡ n → ink_ahead (characters (drop at line)) ≡ a → glyphs_behind glue line end at ≡ glyphs glue (drop at line)
      pick u false n a o p q r = rw p (sym (glyphs_settle glue (drop at line)))
      pick u true false a o p q r = rw p (no_break_edge glue q)
      pick u true true false o p q r = rw p (ink_edge glue line at r)
      pick true true true true o p q r = absurd (let k = rw (o, p, q, r) at e in let z : ◌≡◌ {A = ℕ} 0 1 = cc in omega arith)
      pick false true true true o p q r = rw (o, p) (ink_off (drop at line))

-- if one does, no blank stands there
pub margin_glued : (glue : Bool) (tab : ℕ) (line : List ℕ) (end : ℕ) (m : Spot) → Inside line m → glued_at glue line end m.at ≡ true → BehindBlanks tab line (glyphs_behind glue line end m.at) m m
unfolding glued_at ink_glyphs
margin_glued glue tab line end m ins e =
    let at = m.at in
    let b = (and-eq-true_iff (glue && no_break_at line at && ink_ahead (characters (drop at line))) (ink_before end line)).0 e in
    let d = (and-eq-true_iff (glue && no_break_at line at) (ink_ahead (characters (drop at line)))).0 b.0 in
    let n = (and-eq-true_iff glue (no_break_at line at)).0 d.0 in
    let h = no_break_here line at n.1 in
    let g = glyph (drop at line) in
    let w : while no_break (characters (drop at line)) ≡ g ∷ while no_break (characters (drop (at + 2) line)) = ap (while no_break) h.first ∙ while_more no_break g (characters (drop (at + 2) line)) (eq-eqb _ _ h.has_code) in
    let back = ink_glyphs true (drop (at + extent (while no_break (characters (drop at line)))) line) in
    let rest = map ordinary (while no_break (characters (drop (at + 2) line))) ++ back in
    let f : glyphs_behind glue line end at ≡ ordinary g ∷ rest =
    rw (n.0, b.1) (run_on line at d.1) ∙ ap (λ (gs : List Glyph). map ordinary gs ++ back) w in
    record {
      inside = ins;
      spot = rw (f, while_end is_blank (ordinary g) rest refl) (behind_none tab m);
      blank = rw (f, ne_eqb at (length line) (omega (arith, h.on, h.within))) (every_end is_blank (ordinary g) rest refl);
    }
