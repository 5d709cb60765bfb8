-- Measuring: the column after a character, the spot after glyphs, and the glyphs before and from a place, one glyph at a time.
use mathlib.Core.Path.{◌≡◌, refl, sym, ap, ◌∙◌}
use mathlib.Core.Bool.{Bool, true, cond}
use mathlib.Core.List.{List, [], ◌∷◌, ◌++◌}
use Prim.Native.Nat.{ℕ, ◌+◌, ◌-◌, ◌*◌, ◌/◌, ◌≤◌, ◌<◌}
use native.Mathlib.Nat.{add-mul, div-add-mod', mod-lt, div-le_self}
use native.Mathlib.Omega.{arith}
use lib.Dec.{eqb}
use lib.ListN.{length, drop}
use borrow.Author.Tests.{ne_eqb}
use Rattle.lists.specs.Runs.{while, every}
use Rattle.lists.proofs.Runs.{while_more, every_more}
use Rattle.widths.specs.Widths.{width_of}
use Rattle.widths.proofs.Laws.{at_most_two}
use Rattle.text.specs.Characters.{Glyph, glyph, characters, glyphs, is_blank, extent}
use Rattle.text.proofs.Glyphs.{Here, DamagedHere}
use Rattle.text.proofs.Edges.{blank_on}
use Rattle.lines.specs.Classes.{glyphs_before, glyphs_from, next_stop, column_behind, columns_of}
use Rattle.lines.specs.Cited.Places.{Inside, behind_all, Behind}
use Rattle.lines.specs.declared.Spot.{Spot}

-- ---- columns

pub next_stop_law : (column tab : ℕ) → 1 ≤ tab → (column < (column / tab + 1) * tab) × ((column / tab + 1) * tab ≤ column + tab) × (column / tab ≤ column)
next_stop_law column tab h =
    let d = div-add-mod' column tab in
    let m = mod-lt column {m = tab} h in
    let e = add-mul (column / tab) 1 tab in
    (omega arith, omega arith, div-le_self column tab)

pub width_is : (column tab code w : ℕ) → (code ≡ 9 → ⊥) → w ≡ width_of code → column + w ≡ cond (eqb code 9) (next_stop tab column) (column + width_of code)
width_is column tab code w h e = rw (ne_eqb code 9 h, e)

-- a character is at most two columns wide
pub narrow : (code w : ℕ) → w ≡ width_of code → w ≤ 2
narrow code w e = rw e (at_most_two code)

-- ---- after glyphs

pub behind_none : (tab : ℕ) (m : Spot) → m ≡ behind_all tab m []
unfolding behind_all extent columns_of
behind_none tab m = ap (λ (n : ℕ). record { at = n; column = m.column }) (omega arith)

pub behind_cons : (tab : ℕ) (m r : Spot) (g : Glyph) (gs : List Glyph) → m.at + length g.bytes ≡ r.at → column_behind tab m.column g ≡ r.column → behind_all tab m (g ∷ gs) ≡ behind_all tab r gs
unfolding behind_all extent columns_of
behind_cons tab m r g gs p c = rw c (ap (λ (n : ℕ). record { at = n; column = columns_of tab r.column gs }) (omega arith))

pub behind_append : (tab : ℕ) (m : Spot) (a b : List Glyph) → behind_all tab m (a ++ b) ≡ behind_all tab (behind_all tab m a) b
behind_append tab m [] b = ap (λ (n : Spot). behind_all tab n b) (behind_none tab m)
behind_append tab m (g ∷ a) b =
    let r : Spot = record { at = m.at + length g.bytes; column = column_behind tab m.column g } in
    behind_cons tab m r g (a ++ b) refl refl ∙ behind_append tab r a b ∙ ap (λ (n : Spot). behind_all tab n b) (sym (behind_cons tab m r g a refl refl))

-- ---- before and from a place

pub up_to_zero : (gs : List Glyph) → glyphs_before 0 gs ≡ []
unfolding glyphs_before
up_to_zero [] = refl
up_to_zero (g ∷ gs) = refl

pub from_zero : (gs : List Glyph) → glyphs_from 0 gs ≡ gs
unfolding glyphs_from
from_zero [] = refl
from_zero (g ∷ gs) = refl

module _ (place : ℕ) (g : Glyph) (gs : List Glyph) (some : 0 < place) where
  pub up_to_more : glyphs_before place (g ∷ gs) ≡ g ∷ glyphs_before (place - length g.bytes) gs
  unfolding glyphs_before
  up_to_more = rw (ne_eqb place 0 (omega arith), glyphs_before)

  pub from_more : glyphs_from place (g ∷ gs) ≡ glyphs_from (place - length g.bytes) gs
  unfolding glyphs_from
  from_more = rw (ne_eqb place 0 (omega arith), glyphs_from)

-- ---- one glyph on: r is the spot after the glyph at m

module _ (tab : ℕ) (line : List ℕ) (m r : Spot) (ins : Inside line m) where
  -- from the answer of char_at or glyph_at and of column_behind
  pub behind_char : {blank : Bool} {code : ℕ} → Here blank line m.at code r.at
      → r.column ≡ cond (eqb code 9) (next_stop tab m.column) (m.column + width_of code) → r.column ≤ m.column + 100 → Behind tab line m r
  unfolding column_behind
  behind_char {blank} {code} h e k = record {
    on = h.on;
    inside = record { place = h.within; small = omega (arith, h.on, ins.small) };
    first = h.first;
    count = h.count;
    column = rw (h.has_code, h.has_width) (sym e);
  }

  pub behind_damaged : DamagedHere line m.at → m.at < length line → r.at ≡ m.at + 1 → r.column ≡ m.column + 1 → Behind tab line m r
  unfolding column_behind
  behind_damaged h k p e = record {
    on = omega arith;
    inside = record { place = omega arith; small = omega (arith, ins.small) };
    first = rw p h.first;
    count = rw h.has_bytes (omega arith);
    column = rw (h.has_code, h.has_width) (sym e);
  }

module _ (tab : ℕ) (line : List ℕ) (m r : Spot) (st : Behind tab line m r) where
  past : (gs : List Glyph) → behind_all tab m (glyph (drop m.at line) ∷ gs) ≡ behind_all tab r gs
  past gs = behind_cons tab m r (glyph (drop m.at line)) gs (omega (arith, st.count, st.on)) st.column

  module _ (glue : Bool) {code : ℕ} (h : Here true line m.at code r.at) where
    pub blanks_on : behind_all tab m (while is_blank (glyphs glue (drop m.at line))) ≡ behind_all tab r (while is_blank (glyphs glue (drop r.at line)))
    blanks_on = rw (blank_on glue line m.at h, while_more is_blank (glyph (drop m.at line)) (glyphs glue (drop r.at line)) h.is_blank) (past _)

    pub every_on : every is_blank (glyphs glue (drop m.at line)) ≡ every is_blank (glyphs glue (drop r.at line))
    every_on = rw (blank_on glue line m.at h) (every_more is_blank _ _ h.is_blank)

  module _ (place : ℕ) (h : m.at < place) where
    less : (place - m.at) - length (glyph (drop m.at line)).bytes ≡ place - r.at
    less = omega (arith, st.count, st.on)

    pub up_to_on : behind_all tab m (glyphs_before (place - m.at) (characters (drop m.at line))) ≡ behind_all tab r (glyphs_before (place - r.at) (characters (drop r.at line)))
    up_to_on = rw (st.first, up_to_more (place - m.at) (glyph (drop m.at line)) (characters (drop r.at line)) (omega arith), less) (past _)

    pub from_on : glyphs_from (place - m.at) (characters (drop m.at line)) ≡ glyphs_from (place - r.at) (characters (drop r.at line))
    from_on = rw (st.first, from_more (place - m.at) (glyph (drop m.at line)) (characters (drop r.at line)) (omega arith), less)
