-- Where it stands on an output line, what parts two words is blank by the rule of RULES 4.4.
use Rattle.std.proofs.Common.{None}
use mathlib.Core.Path.{◌≡◌, refl, sym, ap, ap₂, ◌∙◌}
use mathlib.Core.Bool.{Bool, true, false, cond, not, ◌&&◌, and-eq-true_iff, true≢false}
use mathlib.Core.List.{List, [], ◌∷◌, ◌++◌, map}
use Prim.Native.Nat.{ℕ}
use native.Mathlib.Omega.{arith}
use lib.Dec.{eqb}
use Rattle.lists.specs.Runs.{every, joined}
use Rattle.lists.proofs.Runs.{every_map}
use Rattle.lists.proofs.Parts.{every_nil, every_cons, joined_nil, joined_cons}
use Rattle.text.specs.Rfc3629.{encode}
use Rattle.widths.specs.WhiteSpace.{white_space}
use Rattle.text.specs.Characters.{Glyph, characters, no_break, ordinary, ink_ahead, glyphs, is_blank, is_good, damage}
use Rattle.text.specs.Cited.Places.{settle, ink_behind, ink_after}
use Rattle.text.specs.Theorems.Blanks.{space_code, Gap}
use Rattle.text.proofs.Glyphs.{characters_past, characters_joined}
use Rattle.text.proofs.Glue.{glyphs_settle, ahead_run, ahead_other, settle_first, settle_blank, settle_end}
use Rattle.checker.proofs.Codes.{glyph_of, glyphs_here, space_character}
use Rattle.rudignals.proofs.Undamaged.{Good, damage_good, characters_append}

-- ---- blanks of which one is no U+00A0 stay blank

-- after no ink blanks are themselves
blanks_stay : (glue : Bool) (gap rest : List Glyph) → every is_blank gap ≡ true → settle glue false (gap ++ rest) ≡ gap ++ settle glue false rest
blanks_stay glue [] rest e = refl
blanks_stay glue (g ∷ gap) rest e =
    let h = (and-eq-true_iff g.blank (every is_blank gap)).0 (rw every_cons at e) in
    settle_blank glue g (gap ++ rest) h.0 ∙ ap (λ (gs : List Glyph). g ∷ gs) (blanks_stay glue gap rest h.1)

-- before another blank than U+00A0 no ink is ahead
none_ahead : (gap rest : List Glyph) → every is_blank gap ≡ true → every no_break gap ≡ false → ink_ahead (gap ++ rest) ≡ false
none_ahead [] rest e n = absurd (true≢false (sym (every_nil no_break) ∙ n))
none_ahead (g ∷ gap) rest e n = pick (no_break g) refl (none_ahead gap rest h.1)
  where
    h : (g.blank ≡ true) × (every is_blank gap ≡ true)
    h = (and-eq-true_iff g.blank (every is_blank gap)).0 (rw every_cons at e)

    pick : (t : Bool) → no_break g ≡ t → (every no_break gap ≡ false → ink_ahead (gap ++ rest) ≡ false) → ink_ahead (g ∷ gap ++ rest) ≡ false
    pick true k ih = ahead_run g (gap ++ rest) k ∙ ih (sym (every_cons no_break g gap ∙ ap (λ (t : Bool). t && every no_break gap) k) ∙ n)
    pick false k ih = ahead_other g (gap ++ rest) k ∙ ap not h.0

gap_stays : (glue ink : Bool) (gap rest : List Glyph) → every is_blank gap ≡ true → (glue ≡ true → every no_break gap ≡ false) → settle glue ink (gap ++ rest) ≡ gap ++ settle glue false rest
unfolding settle
gap_stays glue false gap rest e n = blanks_stay glue gap rest e
gap_stays true true gap rest e n = settle_end true (gap ++ rest) (none_ahead gap rest e (n refl)) ∙ blanks_stay true gap rest e
gap_stays false true gap rest e n = refl

-- ---- what is before it

-- a line's glyphs in two parts, of which the second knows what is before it
record Parted (glue ink : Bool) (xs ys : List Glyph) : Type 0 where
  left : List Glyph
  bytes : joined (λ (g : Glyph). g.bytes) left ≡ joined (λ (g : Glyph). g.bytes) xs
  parts : settle glue ink (xs ++ ys) ≡ left ++ settle glue (ink_after ink xs) ys

parted : (glue ink : Bool) (xs ys : List Glyph) → Parted glue ink xs ys
unfolding ink_after
parted glue ink [] ys = record { left = []; bytes = refl; parts = refl }
parted glue ink (x ∷ xs) ys =
    let b = parted glue (ink_behind ink x) xs ys in
    let v = settle_first glue ink x (xs ++ ys) in
    record {
      left = cond v.0 (ordinary x) x ∷ b.left;
      bytes = joined_cons _ _ _ ∙ ap₂ (λ (l r : List ℕ). l ++ r) (same v.0) b.bytes ∙ sym (joined_cons _ x xs);
      parts = v.1 ∙ ap (λ (gs : List Glyph). cond v.0 (ordinary x) x ∷ gs) b.parts;
    }
  where
    same : (t : Bool) → (cond t (ordinary x) x).bytes ≡ x.bytes
    same true = refl
    same false = refl

-- ---- blank characters, read again from their bytes

record Again (codes bytes : List ℕ) : Type 0 where
  code : map (λ (g : Glyph). g.code) (characters bytes) ≡ codes
  blank : every is_blank (characters bytes) ≡ true
  good : Good bytes

again : (codes : List ℕ) → every space_code codes ≡ true → Again codes (joined encode codes)
again [] h = let n : characters [] ≡ [] = characters_past [] 0 (omega arith) in rw joined_nil (none n)
  where
    none : characters [] ≡ [] → Again [] []
    none n = record { code = ap (map (λ (g : Glyph). g.code)) n; blank = rw (n, every_nil); good = rw (n, every_nil) }
again (c ∷ codes) h =
    let k = (and-eq-true_iff (space_code c) (every space_code codes)).0 (rw every_cons at h) in
    let b = ((and-eq-true_iff (white_space c) (not (eqb c 10))).0 k.0).0 in
    let rest = joined encode codes in
    let r = again codes k.1 in
    let f : characters (encode c ++ rest) ≡ glyph_of c ∷ characters rest = glyphs_here c (space_character c k.0) rest in
    rw joined_cons
    (record {
      code = ap (map (λ (q : Glyph). q.code)) f ∙ ap (λ (l : List ℕ). c ∷ l) r.code;
      blank = ap (every is_blank) f ∙ every_cons is_blank (glyph_of c) (characters rest) ∙ rw b r.blank;
      good = ap (every is_good) f ∙ every_cons is_good (glyph_of c) (characters rest) ∙ r.good;
    })

-- ---- a gap where it stands

-- the glyphs of a line: those of what is before the gap, those of the gap, all blank, and the rest
pub record BlankThere (glue : Bool) (before gap after : List ℕ) : Type 0 where
  pub left : List Glyph
  pub middle : List Glyph
  pub right : List Glyph
  pub parts : glyphs glue (before ++ (gap ++ after)) ≡ left ++ (middle ++ right)
  pub before_is : joined (λ (g : Glyph). g.bytes) left ≡ before
  pub gap_is : joined (λ (g : Glyph). g.bytes) middle ≡ gap
  pub blank : every is_blank middle ≡ true

pub gap_stands : (glue : Bool) (before gap after : List ℕ) → damage before ≡ None → Gap glue gap → BlankThere glue before gap after
gap_stands glue xs gap after d g =
    let a = rw (← g.blanks.octets) at (again g.codes g.blanks.blank) in
    let b = parted glue false (characters xs) (characters gap ++ characters after) in
    let n : glue ≡ true → every no_break (characters gap) ≡ false = λ e. every_map (λ c. eqb c 0xA0) (λ (q : Glyph). q.code) (characters gap) ∙ ap (every (λ c. eqb c 0xA0)) a.code ∙ g.other e in
    let e : characters (xs ++ (gap ++ after)) ≡ characters xs ++ (characters gap ++ characters after) = characters_append xs (gap ++ after) (damage_good xs d) ∙ ap (λ (l : List Glyph). characters xs ++ l) (characters_append gap after a.good) in
    record {
      left = b.left;
      middle = characters gap;
      right = settle glue false (characters after);
      parts = glyphs_settle glue (xs ++ (gap ++ after)) ∙ ap (settle glue false) e ∙ b.parts ∙ ap (λ (l : List Glyph). b.left ++ l) (gap_stays glue (ink_after false (characters xs)) (characters gap) (characters after) a.blank n);
      before_is = b.bytes ∙ characters_joined xs;
      gap_is = characters_joined gap;
      blank = a.blank;
    }
