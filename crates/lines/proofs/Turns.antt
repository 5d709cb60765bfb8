-- The loops that measure, turn by turn: what is left from a spot on leads where the whole does.
use mathlib.Core.Path.{◌≡◌, refl, sym, ap, subst, ◌∙◌}
use mathlib.Core.Bool.{Bool, true, false, cond, ◌||◌}
use mathlib.Core.List.{List, [], ◌∷◌}
use Prim.Native.Nat.{ℕ, zero, suc, ◌+◌, ◌-◌, ◌*◌, ◌/◌, ◌≤◌, ◌<◌}
use native.Mathlib.Nat.{add-mul, mul-div_cancel}
use native.Mathlib.Omega.{arith}
use lib.Dec.{ltb, eqb}
use lib.ListN.{length, get_or, drop}
use borrow.Author.Tests.{ltb-true, ltb-false, eqb-false, eq-eqb, ne_eqb}
use Rattle.lists.specs.Runs.{while, every}
use Rattle.lists.proofs.Runs.{while_end, every_more, every_end}
use Rattle.lists.proofs.Parts.{every_nil}
use Rattle.text.specs.Characters.{glyph, characters, glyphs, is_blank}
use Rattle.text.specs.Cited.Places.{settle, ink_behind}
use Rattle.text.proofs.Glyphs.{Here}
use Rattle.text.proofs.Rows.{all_at, all_each}
use Rattle.text.proofs.Edges.{glyphs_past, glyphs_first, blank_on}
use Rattle.lines.specs.Classes.{next_stop, glyphs_before, glyphs_from}
use Rattle.widths.specs.Widths.{width_of}
use Rattle.lines.specs.Cited.Places.{BehindTabs, Inside, line_start, behind_all, Behind, BehindBlanks, BehindPlace}
use Rattle.lines.specs.declared.Spot.{Spot}
use Rattle.lines.proofs.Measures.{behind_none, up_to_zero, from_zero, behind_char, blanks_on, every_on, up_to_on, from_on}
use Rattle.lines.proofs.UsualBlanks.{tab_here, ends_here}

-- ---- up to a place: what is left to measure from m on leads where measuring from the line's start does

pub record Left (tab : ℕ) (line : List ℕ) (place : ℕ) (m : Spot) : Type 0 where
  pub spot : behind_all tab m (glyphs_before (place - m.at) (characters (drop m.at line))) ≡ behind_all tab line_start (glyphs_before place (characters line))
  pub rest : glyphs_from (place - m.at) (characters (drop m.at line)) ≡ glyphs_from place (characters line)

module _ {tab : ℕ} {line : List ℕ} {place : ℕ} where
  pub left_then : {m r : Spot} → Behind tab line m r → m.at < place → Left tab line place m → Left tab line place r
  left_then st h l = record { spot = sym (up_to_on _ _ _ _ st place h) ∙ l.spot; rest = sym (from_on _ _ _ _ st place h) ∙ l.rest }

  pub left_last : {m : Spot} → place ≤ m.at → Left tab line place m → BehindPlace tab line place m
  left_last {m} h l =
      let e : place - m.at ≡ 0 = omega arith in
      record {
        spot = behind_none tab m ∙ rw (e, up_to_zero (characters (drop m.at line))) at l.spot;
        rest = rw (e, from_zero (characters (drop m.at line))) at l.rest;
      }

-- ---- where the blanks end

-- no blank is at a place of a line
pub record NoBlank (glue : Bool) (line : List ℕ) (at : ℕ) : Type 0 where
  pub none : while is_blank (glyphs glue (drop at line)) ≡ []
  pub ends : every is_blank (glyphs glue (drop at line)) ≡ eqb at (length line)

-- from an answer of glyph_at that is no blank, at the line's end too
pub no_blank : (glue : Bool) (line : List ℕ) (at : ℕ) → at ≤ length line → (glyph (drop at line)).blank ≡ false → NoBlank glue line at
unfolding while every
no_blank glue line at w b = pick (ltb at (length line)) refl
  where
    pick : (t : Bool) → ltb at (length line) ≡ t → NoBlank glue line at
    pick true k =
        let h = ltb-true at (length line) k in
        let g = glyph (drop at line) in
        let gs = settle glue (ink_behind false g) (characters (drop (at + length g.bytes) line)) in
        let f : glyphs glue (drop at line) ≡ g ∷ gs = glyphs_first glue line at h in
        record { none = rw f (while_end is_blank g gs b); ends = rw (f, ne_eqb at (length line) (omega arith)) (every_end is_blank g gs b) }
    pick false k =
        let h : at ≡ length line = omega (arith, ltb-false at (length line) k) in
        let g = glyphs_past glue line at (omega arith) in
        record { none = rw g; ends = rw (g, eq-eqb at (length line) h) }

-- ---- whether all of a line is blank: what is left from a place on decides it

module _ (glue : Bool) (line : List ℕ) (at : ℕ) where
  pub all_on : (code next : ℕ) → Here true line at code next → every is_blank (glyphs glue (drop at line)) ≡ every is_blank (glyphs glue (drop next line))
  all_on code next h = rw (blank_on glue line at h) (every_more is_blank _ _ h.is_blank)

  pub all_stop : at < length line → (glyph (drop at line)).blank ≡ false → every is_blank (glyphs glue (drop at line)) ≡ false
  all_stop h b = rw (glyphs_first glue line at h) (every_end is_blank _ _ b)

  pub all_past : length line ≤ at → every is_blank (glyphs glue (drop at line)) ≡ true
  all_past h = rw (glyphs_past glue line at h) (every_nil is_blank)

-- ---- spaces and tabs in a row

abbrev usual : ℕ → Bool
usual b = eqb b 32 || eqb b 9

blank_run : (line : List ℕ) (i n : ℕ) → i + n < length line → ((k : ℕ) → i ≤ k → k ≤ i + n → usual (get_or line k 0) ≡ true) → (glue : Bool)
    → every is_blank (glyphs glue (drop i line)) ≡ every is_blank (glyphs glue (drop (i + suc n) line))
blank_run line i zero h all glue =
    let z : i + 1 ≡ i + suc zero = omega arith in
    all_on glue line i _ (i + 1) (ends_here line i (omega arith) (all i (omega arith) (omega arith))) ∙ ap (λ (k : ℕ). every is_blank (glyphs glue (drop k line))) z
blank_run line i (suc n) h all glue =
    let z : i + suc n + 1 ≡ i + suc (suc n) = omega arith in
    blank_run line i n (omega arith) (λ k a b. all k a (omega arith)) glue
    ∙ all_on glue line (i + suc n) _ (i + suc n + 1) (ends_here line (i + suc n) h (all (i + suc n) (omega arith) (omega arith)))
    ∙ ap (λ (k : ℕ). every is_blank (glyphs glue (drop k line))) z

pub blank_eight : (line : List ℕ) (i : ℕ) → i + 8 ≤ length line → all_at (λ b. eqb b 32 || eqb b 9) line i 7 ≡ true → (glue : Bool) → every is_blank (glyphs glue (drop i line)) ≡ every is_blank (glyphs glue (drop (i + 8) line))
blank_eight line i h e = blank_run line i 7 (omega arith) (λ k a b. all_each usual line i 7 e k a b)

-- ---- one byte, again and again

-- ---- over blanks: what is left from m on leads where going from the first spot does

pub record LeftBlanks (glue : Bool) (tab : ℕ) (line : List ℕ) (m₀ m : Spot) : Type 0 where
  pub spot : behind_all tab m (while is_blank (glyphs glue (drop m.at line))) ≡ behind_all tab m₀ (while is_blank (glyphs glue (drop m₀.at line)))
  pub blank : every is_blank (glyphs glue (drop m.at line)) ≡ every is_blank (glyphs glue (drop m₀.at line))

-- from a tab stop the next is a tab's width further
stop_on : (tab k n : ℕ) → 0 < tab → k * tab + n * tab + tab ≡ next_stop tab (k * tab + n * tab)
unfolding next_stop
stop_on tab k n some =
    let a = add-mul k n tab in
    let b = add-mul (k + n) 1 tab in
    let d : (k * tab + n * tab) / tab ≡ k + n = ap (λ (x : ℕ). x / tab) (sym a) ∙ mul-div_cancel (k + n) some in
    rw d (omega arith)

-- a spot that the blanks lead to
abbrev pub Reached : Bool → ℕ → List ℕ → Spot → ℕ → ℕ → Type 0
Reached glue tab line m₀ at column = Inside line (record { at = at; column = column }) × LeftBlanks glue tab line m₀ (record { at = at; column = column })

module _ {glue : Bool} {tab : ℕ} {line : List ℕ} {m₀ : Spot} where
  pub blanks_first : LeftBlanks glue tab line m₀ m₀
  blanks_first = record { spot = refl; blank = refl }

  pub blanks_then : {m r : Spot} {code : ℕ} → Behind tab line m r → Here true line m.at code r.at → LeftBlanks glue tab line m₀ m → LeftBlanks glue tab line m₀ r
  blanks_then st h l = record { spot = sym (blanks_on _ _ _ _ st glue h) ∙ l.spot; blank = sym (every_on _ _ _ _ st glue h) ∙ l.blank }

  -- tabs after a tab stop, each a stop further
  pub tabs_then : (m : Spot) (k n : ℕ) → 1 ≤ tab → tab ≤ 100 → m.column ≡ k * tab → m.at + n ≤ length line → ((i : ℕ) → m.at ≤ i → i < m.at + n → get_or line i 0 ≡ 9) → Inside line m → LeftBlanks glue tab line m₀ m
      → Reached glue tab line m₀ (m.at + n) (m.column + n * tab)
  tabs_then m k zero some few e h all ins l =
      let z : m.at + 0 ≡ m.at = omega arith in
      let y : m.column + 0 * tab ≡ m.column = omega arith in
      rw (z, y) (ins, l)
  tabs_then m k (suc n) some few e h all ins l =
      let t = tabs_then m k n some few e (omega arith) (λ i a b. all i a (omega arith)) ins l in
      let here = tab_here line (m.at + n) (omega arith) (all (m.at + n) (omega arith) (omega arith)) in
      let z : m.at + suc n ≡ m.at + n + 1 = omega arith in
      let y : m.column + suc n * tab ≡ m.column + n * tab + tab = let d = add-mul n 1 tab in omega arith in
      let b : Behind tab line (record { at = m.at + n; column = m.column + n * tab }) (record { at = m.at + n + 1; column = m.column + n * tab + tab }) =
      behind_char tab line (record { at = m.at + n; column = m.column + n * tab }) (record { at = m.at + n + 1; column = m.column + n * tab + tab }) t.0 here (ap (λ (x : ℕ). x + n * tab + tab) e ∙ stop_on tab k n some ∙ ap (λ (x : ℕ). next_stop tab (x + n * tab)) (sym e)) (omega arith) in
      rw (z, y) (b.inside, blanks_then b here t.1)

  -- a blank, and after a tab the tabs that follow it
  pub blanks_tabs : {m r : Spot} {code : ℕ} (end : ℕ) → 1 ≤ tab → tab ≤ 100 → Behind tab line m r → Here true line m.at code r.at → r.column ≡ cond (eqb code 9) (next_stop tab m.column) (m.column + width_of code)
      → BehindTabs line code r.at end → LeftBlanks glue tab line m₀ m
      → Reached glue tab line m₀ end (r.column + (end - r.at) * tab)
  unfolding next_stop
  blanks_tabs {m} {r} {code} end some few st h e t l = pick (eqb code 9) refl
    where
      pick : (z : Bool) → eqb code 9 ≡ z → Reached glue tab line m₀ end (r.column + (end - r.at) * tab)
      pick true z =
          let run = t.run in
          let q : r.at + (end - r.at) ≡ end = omega (arith, run.on) in
          let k : r.column ≡ (m.column / tab + 1) * tab = rw z at e in
          let w = tabs_then r (m.column / tab + 1) (end - r.at) some few k (omega (arith, q, run.within)) (λ i a d. run.each i a (omega (arith, q))) st.inside (blanks_then st h l) in
          subst (λ (at : ℕ). Reached glue tab line m₀ at (r.column + (end - r.at) * tab)) q w
      pick false z =
          let q : end ≡ r.at = t.only (eqb-false code 9 z) in
          let n : (end - r.at) * tab ≡ 0 = let y : end - r.at ≡ 0 = omega arith in rw y (omega arith) in
          let w : Reached glue tab line m₀ r.at r.column = (st.inside, blanks_then st h l) in
          let v : r.column ≡ r.column + (end - r.at) * tab = omega (arith, n) in
          subst (λ (at : ℕ). Reached glue tab line m₀ at (r.column + (end - r.at) * tab)) (sym q) (subst (λ (column : ℕ). Reached glue tab line m₀ r.at column) v w)

  pub blanks_last : {m : Spot} → Inside line m → NoBlank glue line m.at → LeftBlanks glue tab line m₀ m → BehindBlanks tab line (glyphs glue (drop m₀.at line)) m₀ m
  blanks_last {m} ins n l = record {
    inside = ins;
    spot = behind_none tab m ∙ rw n.none at l.spot;
    blank = sym l.blank ∙ n.ends;
  }
