-- The characters that stay on a row, from a place and a column on: one more, or the row's end; and a run of bytes of one column each.
use mathlib.Core.Path.{◌≡◌, refl, sym, ap, ◌∙◌}
use mathlib.Core.Bool.{Bool, true, false, cond, not, ◌&&◌, ◌||◌, and-eq-true_iff}
use mathlib.Core.List.{List, [], ◌∷◌}
use Prim.Native.Nat.{ℕ, zero, suc, ◌+◌, ◌-◌, ◌≤◌, ◌<◌}
use native.Mathlib.Omega.{arith}
use lib.Dec.{ltb, leb, eqb}
use lib.ListN.{length, get_or, drop}
use borrow.Author.Tests.{leb-true, leb-false, ltb-true, ltb-false, eqb-true, eqb-false, lt-ltb, le-ltb, ne_eqb}
use Rattle.widths.specs.Widths.{width_of}
use Rattle.widths.specs.Ranges.{width_in}
use Rattle.widths.specs.Table.{table}
use Rattle.text.specs.Characters.{Glyph, glyph, characters, extent}
use Rattle.text.proofs.Glyphs.{Here, DamagedHere, ascii_here, characters_past}
use Rattle.lines.specs.Classes.{next_stop, column_behind}
use Rattle.spacing.proofs.Laws.{stop_behind}
use Rattle.fold.specs.Fold.{stays, staying_on, first_row}
use Rattle.fold.specs.Cited.Steps.{plain_byte, Plain, Behind, stay_end, row_end}
use Rattle.lines.specs.declared.Spot.{Spot}

-- ---- one character

pub width_tab : width_of 9 ≡ 1
unfolding width_of width_in table
width_tab = refl

module _ (tab : ℕ) (line : List ℕ) (at column : ℕ) (some : 1 ≤ tab) where
  moves : (code : ℕ) → (width_of code ≡ 0 → ⊥) → column < cond (eqb code 9) (next_stop tab column) (column + width_of code)
  moves code n = go (eqb code 9)
    where
      go : (t : Bool) → column < cond t (next_stop tab column) (column + width_of code)
      go true = stop_behind tab column some
      go false = omega (arith, n)

  stands : (code : ℕ) → width_of code ≡ 0 → cond (eqb code 9) (next_stop tab column) (column + width_of code) ≡ column
  stands code z = go (eqb code 9) refl
    where
      go : (t : Bool) → eqb code 9 ≡ t → cond t (next_stop tab column) (column + width_of code) ≡ column
      go true e = absurd (let q = eqb-true code 9 e in omega (arith, width_tab, rw q at z))
      go false e = omega (arith, z)

  -- a character, from the answers of decode_at and column_behind
  pub behind_char : {blank : Bool} {code next : ℕ} {column' : ℕ} → Here blank line at code next
      → column' ≡ cond (eqb code 9) (next_stop tab column) (column + width_of code) → column' ≤ column + 100
      → Behind tab line at column (record { at = next; column = column' })
  unfolding column_behind
  behind_char {blank} {code} {next} {column'} h e k =
      record {
        on = h.on;
        within = h.within;
        first = h.first;
        count = omega (arith, h.count, h.on);
        reached = rw (h.has_code, h.has_width) (sym e);
        still = λ z. e ∙ stands code (sym h.has_width ∙ z);
        moved = λ n. rw e (moves code (λ z. n (h.has_width ∙ z)));
        near = k;
      }

  pub behind_damaged : DamagedHere line at → at < length line → Behind tab line at column (record { at = at + 1; column = column + 1 })
  unfolding column_behind
  behind_damaged h k =
      record {
        on = omega arith;
        within = omega arith;
        first = h.first;
        count = rw h.has_bytes (omega arith);
        reached = rw (h.has_code, h.has_width);
        still = λ z. absurd (omega (arith, z, h.has_width));
        moved = λ n. omega arith;
        near = omega arith;
      }

-- ---- the row

module _ (tab columns : ℕ) where
  staying_nil : (column : ℕ) → staying_on tab columns column [] ≡ []
  unfolding staying_on
  staying_nil column = refl

  pub staying_more : (column : ℕ) (g : Glyph) (gs : List Glyph) → stays tab columns column g ≡ true → staying_on tab columns column (g ∷ gs) ≡ g ∷ staying_on tab columns (column_behind tab column g) gs
  unfolding staying_on
  staying_more column g gs e = rw (e, staying_on)

  pub staying_end : (column : ℕ) (g : Glyph) (gs : List Glyph) → stays tab columns column g ≡ false → staying_on tab columns column (g ∷ gs) ≡ []
  unfolding staying_on
  staying_end column g gs e = rw (e, staying_on)

  module _ (line : List ℕ) where
    pub stay_past : (at column : ℕ) → length line ≤ at → stay_end tab columns line at column ≡ at
    unfolding stay_end extent
    stay_past at column h = rw (characters_past line at h, staying_nil column) (omega arith)

    module _ {at column : ℕ} {r : Spot} (b : Behind tab line at column r) where
      stays_is : stays tab columns column (glyph (drop at line)) ≡ not (ltb columns r.column && ltb column r.column)
      unfolding stays
      stays_is = rw b.reached (go (leb r.column columns) (eqb (glyph (drop at line)).width 0) refl refl)
        where
          go : (p q : Bool) → leb r.column columns ≡ p → eqb (glyph (drop at line)).width 0 ≡ q → (p || q) ≡ not (ltb columns r.column && ltb column r.column)
          go true q e f = rw (le-ltb columns r.column (leb-true _ _ e))
          go false true e f = rw (lt-ltb columns r.column (leb-false _ _ e), le-ltb column r.column (omega (arith, b.still (eqb-true _ _ f))))
          go false false e f = rw (lt-ltb columns r.column (leb-false _ _ e), lt-ltb column r.column (b.moved (eqb-false _ _ f)))

      pub stay_on : (ltb columns r.column && ltb column r.column) ≡ false → stay_end tab columns line at column ≡ stay_end tab columns line r.at r.column
      unfolding stay_end extent
      stay_on e =
          rw (b.first, staying_more column (glyph (drop at line)) (characters (drop r.at line)) (stays_is ∙ ap not e), b.reached)
          (omega (arith, b.count))

      pub stay_off : (ltb columns r.column && ltb column r.column) ≡ true → stay_end tab columns line at column ≡ at
      unfolding stay_end extent
      stay_off e = rw (b.first, staying_end column (glyph (drop at line)) (characters (drop r.at line)) (stays_is ∙ ap not e)) (omega arith)

      -- the first character of a row
      pub row_begins : column ≡ 0 → row_end tab columns line at ≡ stay_end tab columns line r.at r.column
      unfolding row_end stay_end first_row extent
      row_begins z = rw (b.first, ← z, b.reached) (omega (arith, b.count))

    pub row_past : (at : ℕ) → length line ≤ at → row_end tab columns line at ≡ at
    unfolding row_end first_row extent
    row_past at h = rw (characters_past line at h) (omega arith)

    -- ---- bytes of one column each

    plain_narrow : (c : ℕ) → plain_byte c ≡ true → (c < 0x80) × (width_of c ≡ 1) × (c ≡ 9 → ⊥)
    unfolding width_of width_in table
    plain_narrow c e =
        let p = (and-eq-true_iff (leb 0x20 c) (ltb c 0x7F)).0 e in
        let l = leb-true 0x20 c p.0 in
        let m = ltb-true c 0x7F p.1 in
        (omega arith, rw (lt-ltb c 0x300 (omega arith), width_in), λ z. absurd (omega arith))

    plain_behind : (at column : ℕ) → 1 ≤ tab → at < length line → plain_byte (get_or line at 0) ≡ true → Behind tab line at column (record { at = at + 1; column = column + 1 })
    plain_behind at column some h e =
        let p = plain_narrow (get_or line at 0) e in
        behind_char tab line at column some (ascii_here line at h p.0) (rw (ne_eqb (get_or line at 0) 9 p.2, p.1)) (omega arith)

    plain_stays : (at column n : ℕ) → 1 ≤ tab → Plain line at (at + n) → column + n ≤ columns → stay_end tab columns line at column ≡ stay_end tab columns line (at + n) (column + n)
    plain_stays at column zero some p h = let q : at + 0 ≡ at = omega arith in let w : column + 0 ≡ column = omega arith in rw (q, w)
    plain_stays at column (suc n) some p h =
        let q : at + suc n ≡ at + n + 1 = omega arith in
        let w : column + suc n ≡ column + n + 1 = omega arith in
        let front : Plain line at (at + n) = record { on = omega arith; within = omega (arith, p.within); each = λ i a b. p.each i a (omega arith) } in
        let one = plain_behind (at + n) (column + n) some (omega (arith, p.within)) (p.each (at + n) (omega arith) (omega arith)) in
        plain_stays at column n some front (omega arith)
        ∙ stay_on one (rw (le-ltb columns (column + n + 1) (omega arith)))
        ∙ rw (q, w)

    pub stay_plain : {at to : ℕ} (column : ℕ) → 1 ≤ tab → Plain line at to → to ≤ at + (columns - column) → stay_end tab columns line at column ≡ stay_end tab columns line to (column + (to - at))
    stay_plain {at} {to} column some p h = go (eqb to at) refl
      where
        q : at + (to - at) ≡ to
        q = omega (arith, p.on)

        go : (t : Bool) → eqb to at ≡ t → stay_end tab columns line at column ≡ stay_end tab columns line to (column + (to - at))
        go true e =
            let f = eqb-true to at e in
            let z : column + (at - at) ≡ column = omega arith in
            rw (f, z)
        go false e =
            let f = eqb-false to at e in
            let m : column + (to - at) ≤ columns = omega (arith, p.on, f) in
            plain_stays at column (to - at) some (rw q p) m ∙ rw q

    -- ---- on the way: a place and a column from which the row ends where it ends from the start

    pub record Going (from start at column : ℕ) : Type 0 where
      pub on : from ≤ at
      pub within : at ≤ length line
      pub small : column ≤ 1000
      pub same : stay_end tab columns line from start ≡ stay_end tab columns line at column

    module _ {from start at column : ℕ} (g : Going from start at column) (most : columns ≤ 1000) where
      pub going_plain : {to n : ℕ} → 1 ≤ tab → n ≡ columns - column → Plain line at to → to ≤ at + n → Going from start to (column + (to - at))
      going_plain some e p h =
          record {
            on = omega (arith, g.on, p.on);
            within = p.within;
            small = omega (arith, g.small, p.on);
            same = g.same ∙ stay_plain column some p (omega arith);
          }

      pub going_on : {r : Spot} → Behind tab line at column r → (ltb columns r.column && ltb column r.column) ≡ false → Going from start r.at r.column
      going_on {r} b e =
          record { on = omega (arith, g.on, b.on); within = b.within; small = go (ltb columns r.column) refl; same = g.same ∙ stay_on b e }
        where
          go : (t : Bool) → ltb columns r.column ≡ t → r.column ≤ 1000
          go false f = omega (arith, ltb-false columns r.column f)
          go true f =
              let h : ltb column r.column ≡ false = rw f at e in
              omega (arith, ltb-false column r.column h, g.small)

    module _ {from start at column : ℕ} (g : Going from start at column) where
      pub going_end : {r : Spot} → Behind tab line at column r → (ltb columns r.column && ltb column r.column) ≡ true → (at ≡ stay_end tab columns line from start) × (from ≤ at) × (at ≤ length line)
      going_end b e = (sym (g.same ∙ stay_off b e), g.on, g.within)

      pub going_past : length line ≤ at → (at ≡ stay_end tab columns line from start) × (from ≤ at) × (at ≤ length line)
      going_past h = (sym (g.same ∙ stay_past at column h), g.on, g.within)
