-- Blanks at a place, worked off one by one.
use Rattle.std.proofs.Common.{Option, Some, None}
use mathlib.Core.Path.{◌≡◌, refl, sym, ap, ◌∙◌}
use mathlib.Core.Bool.{Bool, true, false, cond}
use mathlib.Core.List.{List, [], ◌∷◌}
use Prim.Native.Nat.{ℕ, zero, suc, ◌+◌, ◌-◌, ◌*◌, ◌/◌, ◌≤◌, ◌<◌}
use native.Mathlib.Nat.{add-zero, add-mul, div-add-mod'}
use native.Mathlib.Numerals.{add-one}
use native.Mathlib.Omega.{arith}
use lib.Dec.{ltb, eqb}
use lib.ListN.{length, get_or, drop, length-drop}
use borrow.Author.Tests.{ltb-true, ltb-false, eq-eqb, ne_eqb}
use Rattle.lists.specs.Runs.{while, behind}
use Rattle.lists.proofs.Runs.{while_more, while_end, behind_more, behind_end}
use Rattle.lists.proofs.Parts.{while_behind}
use Rattle.widths.specs.WhiteSpace.{white_space}
use Rattle.text.specs.Characters.{Glyph, glyph, no_break, glyphs, is_blank, extent}
use Rattle.text.specs.Cited.Places.{seen_as, ink_glyphs}
use Rattle.text.specs.contracts.Glyph.{the_type}
use denote.Enum.Declared.{tag_of}
use types.Run.{OneOf}
use Rattle.text.specs.declared.Glyph.{Glyph as Seen}
use Rattle.text.proofs.Glyphs.{Here, not_blank, ascii_here}
use Rattle.text.proofs.Extents.{glyph_read}
use Rattle.text.proofs.NoBreaks.{no_break_blank}
use Rattle.text.proofs.Edges.{glyphs_past, ink_past, glyphs_first, ink_begins, blank_on}
use Rattle.lines.specs.Classes.{next_stop}
use Rattle.records.specs.Cited.Table.{before_number}
use Rattle.words.specs.Words.{Gap, gap_tab, gap_from, gap_of}
use Rattle.words.specs.Cited.Scan.{gap_in, gap_behind, no_blanks, OverBlanks, InkBegins, OneSpace}
use Rattle.words.specs.declared.Blanks.{Blanks}

-- ---- the counts

stop_near : (tab after : ℕ) → (after / tab + 1) * tab ≤ after + tab
stop_near tab after =
    let d = div-add-mod' after tab in
    let e = add-mul (after / tab) 1 tab in
    omega arith

-- both counts grow by at most 100 with a blank
module _ (tab m : ℕ) (few : tab ≤ 100) where
  tab_few : (before : Option ℕ) (after : ℕ) → before_number before ≤ m → after ≤ m
      → (before_number (gap_tab tab before after).before ≤ m + 100) × ((gap_tab tab before after).after ≤ m + 100)
  unfolding next_stop
  tab_few None after h k = (omega arith, omega arith)
  tab_few (Some n) after h k = let s = stop_near tab after in (omega arith, omega arith)

  gap_few : (code : ℕ) (g : Gap) → before_number g.before ≤ m → g.after ≤ m
      → (before_number (gap_behind tab code g).before ≤ m + 100) × ((gap_behind tab code g).after ≤ m + 100)
  gap_few code g h k = pick (eqb code 9)
    where
      pick : (t : Bool)
          → (before_number (cond t (gap_tab tab g.before g.after) (record { before = g.before; after = g.after + 1 })).before ≤ m + 100)
          × ((cond t (gap_tab tab g.before g.after) (record { before = g.before; after = g.after + 1 })).after ≤ m + 100)
      pick true = tab_few g.before g.after h k
      pick false = (omega arith, omega arith)

-- as the code counts
module _ (tab code : ℕ) (before : Option ℕ) (after : ℕ) where
  pub gap_other : (code ≡ 9 → ⊥) → ◌≡◌ {A = Gap} (record { before = before; after = after + 1 }) (gap_behind tab code (record { before = before; after = after }))
  gap_other h = rw (ne_eqb code 9 h)

  pub gap_later : code ≡ 9 → (n : ℕ) → before ≡ Some n → ◌≡◌ {A = Gap} (record { before = before; after = (after / tab + 1) * tab }) (gap_behind tab code (record { before = before; after = after }))
  unfolding next_stop
  gap_later h n e = rw (eq-eqb code 9 h, e)

-- ---- the blanks that are left

abbrev blanks_at : Bool → List ℕ → ℕ → List Glyph
blanks_at glue s i = while is_blank (glyphs glue (drop i s))

pub record BlanksLeft (glue : Bool) (tab : ℕ) (s : List ℕ) (at : ℕ) (b : Blanks) : Type 0 where
  pub end : b.end + extent (blanks_at glue s b.end) ≡ at + extent (blanks_at glue s at)
  pub gap : gap_from tab (gap_in b) (blanks_at glue s b.end) ≡ gap_of tab (blanks_at glue s at)
  pub rest : behind is_blank (glyphs glue (drop b.end s)) ≡ behind is_blank (glyphs glue (drop at s))
  pub within : b.end ≤ length s
  pub before : before_number b.before ≤ 100 * b.end
  pub after : b.after ≤ 100 * b.end

-- no blank is at a place: ink does, or the line ends
pub record NoBlank (glue : Bool) (s : List ℕ) (at : ℕ) : Type 0 where
  pub none : blanks_at glue s at ≡ []
  pub rest : behind is_blank (glyphs glue (drop at s)) ≡ ink_glyphs glue (drop at s)

-- a glyph that is no blank is no U+00A0
ink_other : (s : List ℕ) (at : ℕ) → at < length s → (glyph (drop at s)).blank ≡ false → no_break (glyph (drop at s)) ≡ false
ink_other s at h b = pick (no_break (glyph (drop at s))) refl
  where
    pick : (t : Bool) → no_break (glyph (drop at s)) ≡ t → t ≡ false
    pick true n = sym (no_break_blank (glyph (drop at s)) (glyph_read (drop at s) (simp length-drop (omega arith))) n) ∙ b
    pick false n = refl

module _ (glue : Bool) (s : List ℕ) (at : ℕ) where
  no_blank_past : length s ≤ at → NoBlank glue s at
  unfolding while behind
  no_blank_past h = let g = glyphs_past glue s at h in record { none = rw g; rest = rw (g, ink_past glue s at h) }

  no_blank_first : at < length s → (glyph (drop at s)).blank ≡ false → NoBlank glue s at
  no_blank_first h b =
      let f = glyphs_first glue s at h in
      record { none = rw f (while_end is_blank _ _ b); rest = ap (behind is_blank) f ∙ behind_end is_blank _ _ b ∙ sym f ∙ sym (ink_begins glue s at (ink_other s at h b)) }

  pub no_blank_begins : InkBegins s at → NoBlank glue s at
  no_blank_begins b = no_blank_first b.within b.ink

  -- from an answer of glyph_at that is no blank
  pub no_blank : (r : Seen) → r ≡ seen_as at (glyph (drop at s)) → OneOf (0 ∷ 2 ∷ []) (tag_of the_type r) → NoBlank glue s at
  no_blank r e h = pick (ltb at (length s)) refl
    where
      pick : (t : Bool) → ltb at (length s) ≡ t → NoBlank glue s at
      pick true k = no_blank_first (ltb-true _ _ k) (not_blank s at r e h)
      pick false k = no_blank_past (ltb-false at (length s) k)

module _ {glue : Bool} {tab : ℕ} {s : List ℕ} {at : ℕ} where
  pub blanks_first : at ≤ length s → BlanksLeft glue tab s at (record { end = at; before = None; after = 0 })
  unfolding gap_of
  blanks_first h = record { end = refl; gap = refl; rest = refl; within = h; before = omega arith; after = omega arith }

  pub blanks_more : (b r : Blanks) {code next : ℕ} → BlanksLeft glue tab s at b → tab ≤ 100 → Here true s b.end code next → r.end ≡ next → gap_in r ≡ gap_behind tab code (gap_in b) → BlanksLeft glue tab s at r
  unfolding extent gap_from
  blanks_more b r {code} {next} i few h e g =
      let f = gap_few tab (100 * b.end) few code (gap_in b) i.before i.after in
      let o = blank_on glue s b.end h in
      let l : blanks_at glue s b.end ≡ glyph (drop b.end s) ∷ blanks_at glue s next = rw o (while_more is_blank _ _ h.is_blank) in
      let m : behind is_blank (glyphs glue (drop b.end s)) ≡ behind is_blank (glyphs glue (drop next s)) = rw o (behind_more is_blank _ _ h.is_blank) in
      record {
        end = rw e (omega (arith, rw l at i.end, h.count, h.on));
        gap = rw (e, g) (rw (l, h.has_code) at i.gap);
        rest = rw e (sym m ∙ i.rest);
        within = rw e h.within;
        before = rw (e, ap (λ (x : Gap). before_number x.before) g) (omega (arith, f.0, h.on));
        after = rw (e, ap (λ (x : Gap). x.after) g) (omega (arith, f.1, h.on));
      }

  pub blanks_done : (b : Blanks) → BlanksLeft glue tab s at b → NoBlank glue s b.end → OverBlanks glue tab false s at b
  unfolding extent gap_from
  blanks_done b i n = record {
    end = omega (arith, rw n.none at i.end);
    gap = rw n.none at i.gap;
    rest = sym n.rest ∙ i.rest;
    within = i.within;
    before = omega (arith, i.before, i.within);
    after = omega (arith, i.after, i.within);
  }

-- spaces, and no blank after them
space_here : (s : List ℕ) (at : ℕ) → at < length s → get_or s at 0 ≡ 32 → Here true s at 32 (at + 1)
unfolding white_space
space_here s at h e = rw e at (ascii_here s at h (omega (arith, e)))

module _ {glue : Bool} {tab : ℕ} {s : List ℕ} {at : ℕ} (few : tab ≤ 100) where
  spaces_left : (k : ℕ) → at + k ≤ length s → ((i : ℕ) → at ≤ i → i < at + k → get_or s i 0 ≡ 32) → BlanksLeft glue tab s at (record { end = at + k; before = None; after = k })
  spaces_left zero h each = rw (add-zero at) (blanks_first (omega arith))
  spaces_left (suc k) h each =
      blanks_more (record { end = at + k; before = None; after = k }) (record { end = at + suc k; before = None; after = suc k }) (spaces_left k (omega arith) (λ i x y. each i x (omega arith))) few
      (space_here s (at + k) (omega arith) (each (at + k) (omega arith) (omega arith))) (omega arith) (rw (← add-one k) (gap_other tab 32 None k (λ e. absurd (omega arith))))

pub blanks_spaces : {glue : Bool} {tab : ℕ} {s : List ℕ} {at : ℕ} (end : ℕ) → at ≤ end → ((i : ℕ) → at ≤ i → i < end → get_or s i 0 ≡ 32) → InkBegins s end → tab ≤ 100 → OverBlanks glue tab false s at (record { end = end; before = None; after = end - at })
blanks_spaces {glue} {tab} {s} {at} end on each ink few =
    let z : at + (end - at) ≡ end = omega arith in
    blanks_done (record { end = end; before = None; after = end - at }) (rw z at (spaces_left {glue = glue} {s = s} {at = at} few (end - at) (rw z (omega (arith, ink.within))) (λ i x y. each i x (omega arith)))) (no_blank_begins glue s end ink)

-- one of them
pub blanks_one : {glue : Bool} {tab : ℕ} {s : List ℕ} {at : ℕ} → OneSpace s at → tab ≤ 100 → OverBlanks glue tab false s at (record { end = at + 1; before = None; after = 1 })
blanks_one {glue} {tab} {s} {at} o few =
    let z : at + 1 - at ≡ 1 = omega arith in
    rw z at (blanks_spaces {glue = glue} {tab = tab} {s = s} {at = at} (at + 1) (omega arith) (λ i x y. let e : i ≡ at = omega arith in rw e o.space) o.behind few)

-- no blank is before the first word of a line
pub blanks_none : {glue : Bool} {tab : ℕ} {s : List ℕ} {at : ℕ} → at ≤ length s → while is_blank (ink_glyphs glue (drop at s)) ≡ [] → OverBlanks glue tab true s at (no_blanks at)
unfolding extent gap_of gap_from
blanks_none {glue} {tab} {s} {at} h e =
    let w = while_behind is_blank (ink_glyphs glue (drop at s)) in
    record { end = rw e (omega arith); gap = rw e; rest = sym (rw e at w); within = h; before = omega arith; after = omega arith }

-- so the blanks before a word are known, the first of its line or another
pub blanks_before : {glue : Bool} {tab : ℕ} (first : Bool) {s : List ℕ} {at : ℕ} {b : Blanks} → at ≤ length s → (first ≡ true → while is_blank (ink_glyphs glue (drop at s)) ≡ [])
    → (first ≡ true → b ≡ no_blanks at) × (first ≡ false → (any : Bool) → OverBlanks any tab false s at b) → OverBlanks glue tab first s at b
blanks_before true h ink found = rw (found.0 refl) (blanks_none h (ink refl))
blanks_before {glue} false h ink found = found.1 refl glue
