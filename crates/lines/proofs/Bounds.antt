-- Columns stay small: at most 100 for each byte, whatever the tab width. And a line's glyphs in two parts: the second is after the
-- bytes of the first.
use mathlib.Core.Path.{◌≡◌, refl, sym, ap, ◌∙◌}
use mathlib.Core.Bool.{Bool, true, false, cond}
use mathlib.Core.List.{List, [], ◌∷◌, ◌++◌}
use Prim.Native.Nat.{ℕ, ◌+◌, ◌*◌, ◌≤◌}
use native.Mathlib.Omega.{arith}
use lib.ListN.{length, drop, length-drop}
use lib.Seq.{drop-drop}
use Rattle.text.specs.Rfc3629.{Front, front, nothing, decode}
use Rattle.widths.proofs.Laws.{at_most_two}
use Rattle.text.specs.Characters.{Glyph, glyph_as, glyph, characters, glyphs, is_tab, extent}
use Rattle.text.specs.Cited.Places.{settle, ink_after}
use Rattle.text.proofs.Glyphs.{Bytes, characters_past, characters_step, characters_induct}
use Rattle.text.proofs.Glue.{glyphs_settle}
use Rattle.lines.specs.Classes.{next_stop, column_behind, columns_of}
use Rattle.lines.proofs.Measures.{next_stop_law}
use Rattle.lines.proofs.Glued.{columns_settle, settle_cut}

-- ---- columns

glyph_narrow : (xs : List ℕ) → (glyph xs).width ≤ 2
unfolding glyph
glyph_narrow xs = pick (decode xs)
  where
    pick : (f : Front) → (glyph_as xs f).width ≤ 2
    pick nothing = omega arith
    pick (front c n) = at_most_two c

module _ (tab : ℕ) (least : 1 ≤ tab) where
  column_on : (column : ℕ) (g : Glyph) → column ≤ column_behind tab column g
  unfolding column_behind next_stop
  column_on column g = pick (is_tab g)
    where
      pick : (t : Bool) → column ≤ cond t (next_stop tab column) (column + g.width)
      pick true = omega (arith, next_stop_law column tab least)
      pick false = omega arith

  columns_on : (column : ℕ) (gs : List Glyph) → column ≤ columns_of tab column gs
  unfolding columns_of
  columns_on column [] = omega arith
  columns_on column (g ∷ gs) = omega (arith, column_on column g, columns_on (column_behind tab column g) gs)

  columns_append : (column : ℕ) (a b : List Glyph) → columns_of tab column (a ++ b) ≡ columns_of tab (columns_of tab column a) b
  unfolding columns_of
  columns_append column [] b = refl
  columns_append column (g ∷ a) b = columns_append (column_behind tab column g) a b

  pub columns_front : (column : ℕ) (a b : List Glyph) → columns_of tab column a ≤ columns_of tab column (a ++ b)
  columns_front column a b = rw (columns_append column a b) (columns_on (columns_of tab column a) b)

  module _ (most : tab ≤ 100) where
    column_near : (column : ℕ) (g : Glyph) → g.width ≤ 2 → column_behind tab column g ≤ column + 100
    unfolding column_behind next_stop
    column_near column g h = pick (is_tab g)
      where
        pick : (t : Bool) → cond t (next_stop tab column) (column + g.width) ≤ column + 100
        pick true = omega (arith, next_stop_law column tab least)
        pick false = omega arith

    characters_near : (line : List ℕ) → (column : ℕ) → columns_of tab column (characters line) ≤ column + 100 * length line
    unfolding columns_of
    characters_near =
        characters_induct (λ ys gs. (column : ℕ) → columns_of tab column gs ≤ column + 100 * length ys) (λ column. omega arith)
        (λ ys b rest column.
        let r = rest (column_behind tab column (glyph ys)) in
        let d = length-drop b.n ys in
        omega (arith, column_near column (glyph ys) (glyph_narrow ys), b.some, b.within))

    pub columns_near : (glue : Bool) (line : List ℕ) (column : ℕ) → columns_of tab column (glyphs glue line) ≤ column + 100 * length line
    columns_near glue line column = rw (glyphs_settle glue line, columns_settle glue tab column false (characters line)) (characters_near line column)

-- ---- a line's glyphs parted

-- the second part of a line's characters is after the bytes of the first
parted_none : (a b : List Glyph) → a ++ b ≡ [] → characters (drop {A = ℕ} (extent a) []) ≡ b
unfolding extent
parted_none [] b e = characters_past [] 0 (omega arith) ∙ sym e
parted_none (g ∷ a) b e = absurd (let z : ◌≡◌ {A = ℕ} 0 1 = cc in omega arith)

parted_more : (ys : List ℕ) (n : Bytes ys) → ((a b : List Glyph) → a ++ b ≡ characters (drop n.n ys) → characters (drop (extent a) (drop n.n ys)) ≡ b)
    → (a b : List Glyph) → a ++ b ≡ glyph ys ∷ characters (drop n.n ys) → characters (drop (extent a) ys) ≡ b
unfolding extent
parted_more ys n rest [] b e = characters_step ys n ∙ sym e
parted_more ys n rest (g ∷ a) b e =
    let q : g ≡ glyph ys = cc in
    let l : length g.bytes ≡ n.n = rw q n.count in
    rw (l, ← drop-drop (extent a) n.n ys) (rest a b cc)

characters_parted : (line : List ℕ) (a b : List Glyph) → a ++ b ≡ characters line → characters (drop (extent a) line) ≡ b
characters_parted = characters_induct (λ ys gs. (a b : List Glyph) → a ++ b ≡ gs → characters (drop (extent a) ys) ≡ b) parted_none parted_more

-- and so does that of its glyphs, classed by whether ink is before it
pub parted : (glue : Bool) (line : List ℕ) (a b : List Glyph) → a ++ b ≡ glyphs glue line → (ink : Bool) × (b ≡ settle glue ink (characters (drop (extent a) line)))
parted glue line a b e =
    let c = settle_cut glue false (characters line) a b (e ∙ glyphs_settle glue line) in
    let p = characters_parted line c.front c.back c.whole in
    (ink_after false c.front, c.rest ∙ ap (settle glue (ink_after false c.front)) (sym p ∙ ap (λ (n : ℕ). characters (drop n line)) c.same))
