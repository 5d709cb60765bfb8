-- Ink at a place, worked off one glyph after the other, and with glue on a run of U+00A0 at once; a damaged byte is ink.
use Rattle.std.proofs.Common.{Some, None}
use mathlib.Core.Path.{◌≡◌, refl, sym, ap, ◌∙◌}
use mathlib.Core.Bool.{Bool, true, false, cond, ◌||◌}
use mathlib.Core.List.{List, [], ◌∷◌, ◌++◌, map}
use Prim.Native.Nat.{ℕ, suc, ◌+◌, ◌-◌, ◌/◌, ◌≤◌, ◌<◌}
use native.Mathlib.Omega.{arith}
use lib.Dec.{eqb}
use lib.ListN.{length, drop}
use borrow.Author.Tests.{ne_eqb, eqb-true}
use Rattle.lists.specs.Runs.{while, behind}
use Rattle.lists.specs.Theorems.All.{All}
use Rattle.lists.proofs.Runs.{while_more, while_end, behind_more, behind_end}
use Rattle.lists.proofs.Parts.{while_nil}
use Rattle.widths.specs.Widths.{width_of}
use Rattle.widths.specs.WhiteSpace.{white_space}
use Rattle.widths.specs.Cited.Forms.{ink_width}
use Rattle.widths.proofs.Laws.{one_before_300}
use Rattle.widths.proofs.Inks.{ink_blank, ink_not_blank}
use Rattle.text.specs.Characters.{Glyph, glyph, characters, no_break, ordinary, ink_ahead, glyphs, extent}
use Rattle.text.specs.Cited.Places.{ink_glyphs, glued_extent}
use Rattle.text.proofs.Glyphs.{Here, DamagedHere}
use Rattle.text.proofs.Letters.{Letter, letter_least, letter_width, letter_here}
use Rattle.text.proofs.Extents.{Read, characters_read}
use Rattle.text.proofs.NoBreaks.{no_break_width, run_bytes}
use Rattle.text.proofs.Edges.{glyphs_past, blank_on, damaged_on, ink_off, ink_edge, ink_begins, run_on, ink_past as ink-nil, ink_on as ink-first-on, ink_stop as other-stop}
use Rattle.words.specs.Words.{is_ink, is_punct, width_sum, punct_at_end}
use Rattle.words.specs.Cited.Scan.{punct_code, glued_bytes, OverInk}
use Rattle.words.specs.declared.Ink.{Ink}

abbrev ink_at : Bool → List ℕ → ℕ → List Glyph
ink_at glue s i = while is_ink (ink_glyphs glue (drop i s))

-- ---- whether ink ends in punctuation, where what went before it did or not

unfoldable pub punct_behind : Bool → List Glyph → Bool
punct_behind p [] = p
punct_behind p (g ∷ gs) = punct_at_end (g ∷ gs)

punct_start : (gs : List Glyph) → punct_behind false gs ≡ punct_at_end gs
unfolding punct_behind punct_at_end
punct_start [] = refl
punct_start (g ∷ gs) = refl

punct_more : (p : Bool) (g : Glyph) (gs : List Glyph) → punct_behind p (g ∷ gs) ≡ punct_behind (is_punct g) gs
unfolding punct_behind punct_at_end
punct_more p g [] = refl
punct_more p g (h ∷ gs) = refl

no_punct : (code : ℕ) → 0xC0 ≤ code → false ≡ punct_code code
no_punct code h = rw (ne_eqb code 33 (omega arith), ne_eqb code 46 (omega arith), ne_eqb code 63 (omega arith))

-- ---- a run of U+00A0 that goes on with a word, before what is left

record RunInk (run left : List Glyph) : Type 0 where
  extents : extent (while is_ink (map ordinary run ++ left)) ≡ extent run + extent (while is_ink left)
  widths : width_sum (while is_ink (map ordinary run ++ left)) ≡ length run + width_sum (while is_ink left)
  rest : behind is_ink (map ordinary run ++ left) ≡ behind is_ink left
  punct : (p : Bool) → punct_behind p (while is_ink (map ordinary run ++ left)) ≡ punct_behind (cond (eqb (length run) 0) p false) (while is_ink left)

run_ink : (left gs : List Glyph) → All Read gs → RunInk (while no_break gs) left
unfolding extent width_sum
run_ink left [] a = rw (while_nil no_break) (record { extents = omega arith; widths = omega arith; rest = refl; punct = λ p. refl })
run_ink left (g ∷ gs) a = pick (no_break g) refl (run_ink left gs a.1)
  where
    none : (n : ℕ) → cond (eqb n 0) false false ≡ false
    none n = go (eqb n 0)
      where
        go : (t : Bool) → cond t false false ≡ false
        go true = refl
        go false = refl

    no_break_punct : no_break g ≡ true → is_punct (ordinary g) ≡ false
    no_break_punct h = ap (λ (c : ℕ). eqb c 33 || eqb c 46 || eqb c 63) (eqb-true g.code 0xA0 h)

    pick : (t : Bool) → no_break g ≡ t → RunInk (while no_break gs) left → RunInk (while no_break (g ∷ gs)) left
    pick false h r = rw (while_end no_break g gs h) (record { extents = omega arith; widths = omega arith; rest = refl; punct = λ p. refl })
    pick true h r =
        let m = while_more is_ink (ordinary g) (map ordinary (while no_break gs) ++ left) refl in
        rw (while_more no_break g gs h)
        (record {
          extents = rw m (omega (arith, r.extents));
          widths = rw m (let w = no_break_width g a.0 h ∙ one_before_300 0xA0 (omega arith) in omega (arith, r.widths));
          rest = behind_more is_ink (ordinary g) (map ordinary (while no_break gs) ++ left) refl ∙ r.rest;
          punct = λ p. rw (m, ne_eqb (suc (length (while no_break gs))) 0 (λ z. omega arith)) (punct_more p (ordinary g) _ ∙ rw (no_break_punct h, r.punct false, none (length (while no_break gs))));
        })

-- ---- the ink that is left

pub record InkLeft (glue : Bool) (s : List ℕ) (at : ℕ) (w : Ink) : Type 0 where
  pub end : w.end + extent (ink_at glue s w.end) ≡ at + extent (ink_at glue s at)
  pub width : w.width + width_sum (ink_at glue s w.end) ≡ width_sum (ink_at glue s at)
  pub punct : punct_behind w.punct (ink_at glue s w.end) ≡ punct_at_end (ink_at glue s at)
  pub rest : behind is_ink (ink_glyphs glue (drop w.end s)) ≡ behind is_ink (ink_glyphs glue (drop at s))
  pub within : w.end ≤ length s
  pub narrow : w.width ≤ w.end

module _ {glue : Bool} {s : List ℕ} {at : ℕ} where
  pub ink_first : at ≤ length s → InkLeft glue s at (record { end = at; width = 0; punct = false })
  ink_first h = record { end = refl; width = omega arith; punct = punct_start _; rest = refl; within = h; narrow = omega arith }

  -- a glyph more, which is no blank and ends at next
  ink_on : (w r : Ink) → InkLeft glue s at w → ink_glyphs glue (drop w.end s) ≡ glyph (drop w.end s) ∷ ink_glyphs glue (drop r.end s) → (glyph (drop w.end s)).blank ≡ false
      → length (glyph (drop w.end s)).bytes ≡ r.end - w.end → w.end < r.end → r.end ≤ length s
      → r.width ≡ w.width + (glyph (drop w.end s)).width → (glyph (drop w.end s)).width ≤ r.end - w.end → r.punct ≡ is_punct (glyph (drop w.end s)) → InkLeft glue s at r
  unfolding extent width_sum
  ink_on w r i first ink count on within width most punct =
      let t : is_ink (glyph (drop w.end s)) ≡ true = rw ink in
      let l : ink_at glue s w.end ≡ glyph (drop w.end s) ∷ ink_at glue s r.end = rw first (while_more is_ink _ _ t) in
      let m : behind is_ink (ink_glyphs glue (drop w.end s)) ≡ behind is_ink (ink_glyphs glue (drop r.end s)) = rw first (behind_more is_ink _ _ t) in
      record {
        end = omega (arith, rw l at i.end);
        width = omega (arith, rw l at i.width);
        punct = rw punct (sym (punct_more w.punct _ _) ∙ rw l at i.punct);
        rest = sym m ∙ i.rest;
        within = within;
        narrow = omega (arith, i.narrow);
      }

  -- from the answers of glyph_at, width and is_punct
  pub ink_more : (w r : Ink) {code : ℕ} → InkLeft glue s at w → Here false s w.end code r.end → {n : ℕ} → n ≡ width_of code → r.width ≡ w.width + n → r.punct ≡ punct_code code → InkLeft glue s at r
  ink_more w r {code} i h {n} e width punct =
      ink_on w r i (ink-first-on glue s w.end h) h.is_blank h.count h.on h.within (rw h.has_width (omega arith)) (rw h.has_width h.narrow) (rw h.has_code punct)

  -- a letter of two bytes, which is no punctuation
  pub ink_letter : (w : Ink) → InkLeft glue s at w → Letter s w.end → InkLeft glue s at (record { end = w.end + 2; width = w.width + 1; punct = false })
  ink_letter w i l = ink_more w (record { end = w.end + 2; width = w.width + 1; punct = false }) i (letter_here s w.end l) {n = 1} (letter_width s w.end l) refl (no_punct _ (letter_least s w.end l))

  -- a character from U+0800 on, from the answers of long_at and ink_width
  pub ink_long : (w r : Ink) {code n : ℕ} → InkLeft glue s at w → Here (white_space code) s w.end code r.end → 0x800 ≤ code → Some n ≡ ink_width code → r.width ≡ w.width + n → r.punct ≡ false → InkLeft glue s at r
  ink_long w r {code} {n} i h least e width punct =
      let k = ink_not_blank code n e in
      ink_more w r i (rw k.0 at h) {n = n} k.1 width (punct ∙ no_punct code (omega arith))

  pub ink_damaged : (w : Ink) → InkLeft glue s at w → w.end < length s → DamagedHere s w.end → InkLeft glue s at (record { end = w.end + 1; width = w.width + 1; punct = false })
  ink_damaged w i k h =
      ink_on w (record { end = w.end + 1; width = w.width + 1; punct = false }) i (damaged_on glue s w.end h) h.is_blank (rw h.has_bytes (omega arith)) (omega arith) (omega arith) (rw h.has_width) (rw h.has_width (omega arith)) (rw h.has_code)

  -- no ink is left
  ink_end : (w : Ink) → InkLeft glue s at w → ink_at glue s w.end ≡ [] → behind is_ink (ink_glyphs glue (drop w.end s)) ≡ glyphs glue (drop w.end s) → OverInk glue s at w
  unfolding extent width_sum punct_behind
  ink_end w i none rest = record {
    end = omega (arith, rw none at i.end);
    width = omega (arith, rw none at i.width);
    punct = rw none at i.punct;
    rest = sym rest ∙ i.rest;
    within = i.within;
    narrow = i.narrow;
  }

  pub ink_past : (w : Ink) → InkLeft glue s at w → length s ≤ w.end → OverInk glue s at w
  unfolding while behind
  ink_past w i h = let g = ink-nil glue s w.end h in ink_end w i (rw g) (rw (g, glyphs_past glue s w.end h))

  -- a blank at which the word ends
  pub ink_stop : (w : Ink) {code next : ℕ} → InkLeft glue s at w → Here true s w.end code next → ink_glyphs glue (drop w.end s) ≡ glyphs glue (drop w.end s) → OverInk glue s at w
  ink_stop w i h e =
      let t : is_ink (glyph (drop w.end s)) ≡ false = rw h.is_blank in
      let f = e ∙ blank_on glue s w.end h in
      ink_end w i (rw f (while_end is_ink _ _ t)) (ap (behind is_ink) f ∙ behind_end is_ink _ _ t ∙ sym (blank_on glue s w.end h))

  -- a blank from U+0800 on, which is no U+00A0
  pub ink_long_stop : (w : Ink) {code next : ℕ} → InkLeft glue s at w → Here (white_space code) s w.end code next → 0x800 ≤ code → None ≡ ink_width code → OverInk glue s at w
  ink_long_stop w {code} {next} i h least e =
      let k : Here true s w.end code next = rw (ink_blank code e) at h in
      ink_stop w i k (other-stop glue s w.end k (λ z. omega arith))

-- U+00A0 by which a word goes on, one column each
module _ (s : List ℕ) (w : Ink) (end : ℕ) where
  abbrev run : List Glyph
  run = while no_break (characters (drop w.end s))

  glued_run : {at : ℕ} → InkLeft true s at w → ink_ahead (characters (drop w.end s)) ≡ true → end ≡ w.end + extent run → (end ≡ w.end → ⊥) → end ≤ length s
      → InkLeft true s at (record { end = end; width = w.width + (end - w.end) / 2; punct = false })
  glued_run i a e more within =
      let left = ink_glyphs true (drop end s) in
      let f : ink_glyphs true (drop w.end s) ≡ map ordinary run ++ left = run_on s w.end a ∙ ap (λ (n : ℕ). map ordinary run ++ ink_glyphs true (drop n s)) (sym e) in
      let r = run_ink left (characters (drop w.end s)) (characters_read (drop w.end s)) in
      let b = run_bytes (characters (drop w.end s)) (characters_read (drop w.end s)) in
      let some : length run ≡ 0 → ⊥ = λ z. more (omega arith) in
      record {
        end = omega (arith, rw f at i.end, r.extents);
        width = omega (arith, rw f at i.width, r.widths);
        punct = sym (r.punct w.punct ∙ rw (ne_eqb (length run) 0 some)) ∙ rw f at i.punct;
        rest = sym r.rest ∙ rw f at i.rest;
        within = within;
        narrow = omega (arith, i.narrow);
      }

pub ink_glued : {glue : Bool} {s : List ℕ} {at : ℕ} (w : Ink) (end : ℕ) → InkLeft glue s at w → end ≡ w.end + glued_bytes glue (characters (drop w.end s)) → (end ≡ w.end → ⊥) → end ≤ length s
    → InkLeft glue s at (record { end = end; width = w.width + (end - w.end) / 2; punct = false })
unfolding glued_extent
ink_glued {glue = false} w end i e more within = absurd (more (omega arith))
ink_glued {glue = true} {s} {at} w end i e more within = pick (ink_ahead (characters (drop w.end s))) refl e
  where
    pick : (t : Bool) → ink_ahead (characters (drop w.end s)) ≡ t → end ≡ w.end + cond t (extent (while no_break (characters (drop w.end s)))) 0
        → InkLeft true s at (record { end = end; width = w.width + (end - w.end) / 2; punct = false })
    pick true a q = glued_run s w end i a q more within
    pick false a q = absurd (more (omega arith))

-- a blank by which none goes on: it is read there as before ink
pub ends_there : (glue : Bool) (s : List ℕ) (at : ℕ) {code next : ℕ} → Here true s at code next → glued_bytes glue (characters (drop at s)) ≡ 0 → ink_glyphs glue (drop at s) ≡ glyphs glue (drop at s)
unfolding glued_extent extent
ends_there false s at h e = ink_off (drop at s)
ends_there true s at {code} {next} h e = pick (no_break (glyph (drop at s))) (ink_ahead (characters (drop at s))) refl refl e
  where
    pick : (n a : Bool) → no_break (glyph (drop at s)) ≡ n → ink_ahead (characters (drop at s)) ≡ a → cond a (extent (while no_break (characters (drop at s)))) 0 ≡ 0
        → ink_glyphs true (drop at s) ≡ glyphs true (drop at s)
    pick false a n q k = ink_begins true s at n
    pick true false n q k = ink_edge true s at q
    pick true true n q k =
        let w : while no_break (characters (drop at s)) ≡ glyph (drop at s) ∷ while no_break (characters (drop next s)) = ap (while no_break) h.first ∙ while_more no_break _ _ n in
        absurd (omega (arith, rw w at k, h.count, h.on))
