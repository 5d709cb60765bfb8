-- Blanks of a digest read from a place on, one by one; and the U+00A0 that a word begins with.
use mathlib.Core.Path.{◌≡◌, refl, ap, ◌∙◌}
use mathlib.Core.Bool.{Bool, true, false, cond, not, ◌||◌}
use mathlib.Core.List.{List, [], ◌∷◌}
use Prim.Native.Nat.{ℕ, ◌+◌, ◌≤◌}
use native.Mathlib.Omega.{arith}
use lib.Dec.{eqb, ltb}
use lib.ListN.{length, drop, length-drop}
use borrow.Author.Tests.{ne_eqb, lt-ltb, ltb-true, ltb-false}
use Rattle.lists.specs.Runs.{while}
use Rattle.lists.proofs.Runs.{while_more, while_end}
use Rattle.lists.proofs.Parts.{while_nil}
use Rattle.widths.specs.WhiteSpace.{white_space}
use Rattle.text.specs.Characters.{Glyph, glyph, characters, no_break, extent}
use Rattle.text.specs.Theorems.Blanks.{space_code}
use Rattle.text.proofs.Glyphs.{Here, characters_past, characters_first}
use Rattle.text.proofs.Extents.{glyph_read}
use Rattle.checker.specs.Matching.{is_space, spaces, soft, parting, lead}
use Rattle.checker.specs.Cited.Places.{GapAt}
use Rattle.checker.specs.declared.Gap.{Gap}
use Rattle.checker.proofs.Codes.{feed_no_space, ink_no_break}

-- ---- the blanks at a place

module _ (s : List ℕ) (at : ℕ) where
  -- the first is one that the code has read
  spaces_more : {code next : ℕ} → Here true s at code next → (code ≡ 10 → ⊥) → spaces (drop at s) ≡ glyph (drop at s) ∷ spaces (drop next s)
  unfolding spaces
  spaces_more {code} {next} h k =
      let e : is_space (glyph (drop at s)) ≡ true = rw (h.has_code, h.is_blank_code, ne_eqb code 10 k) in
      ap (while is_space) h.first ∙ while_more is_space (glyph (drop at s)) (characters (drop next s)) e

  -- there is none: a line feed, another character, or the end
  first_none : (test : Glyph → Bool) → test (glyph (drop at s)) ≡ false → while test (characters (drop at s)) ≡ []
  first_none test e = go (ltb at (length s)) refl
    where
      go : (t : Bool) → ltb at (length s) ≡ t → while test (characters (drop at s)) ≡ []
      go true k = ap (while test) (characters_first s at (ltb-true _ _ k)) ∙ while_end test (glyph (drop at s)) _ e
      go false k = ap (while test) (characters_past s at (ltb-false at (length s) k)) ∙ while_nil test

  past_none : (test : Glyph → Bool) → length s ≤ at → while test (characters (drop at s)) ≡ []
  past_none test h = ap (while test) (characters_past s at h) ∙ while_nil test

  -- a character that is no blank is none of a kind of blanks
  no_blank_none : (test : ℕ → Bool) → ((c : ℕ) → white_space c ≡ false → test c ≡ false) → (glyph (drop at s)).blank ≡ false → while (λ g. test g.code) (characters (drop at s)) ≡ []
  no_blank_none test none b = go (ltb at (length s)) refl
    where
      go : (t : Bool) → ltb at (length s) ≡ t → while (λ g. test g.code) (characters (drop at s)) ≡ []
      go true k =
          let l = length-drop at s in
          let r = glyph_read (drop at s) (omega (arith, ltb-true at (length s) k)) in
          first_none (λ g. test g.code) (none (glyph (drop at s)).code (r.is_blank ∙ b))
      go false k = past_none (λ g. test g.code) (ltb-false at (length s) k)

  pub spaces_ink : (glyph (drop at s)).blank ≡ false → spaces (drop at s) ≡ []
  unfolding spaces
  spaces_ink b = no_blank_none space_code (λ c e. rw e) b

  pub spaces_feed : {next : ℕ} → Here true s at 10 next → spaces (drop at s) ≡ []
  unfolding spaces
  spaces_feed h = first_none is_space (ap space_code h.has_code ∙ feed_no_space)

-- what is left of the blanks: at a gap so far
pub record GapLeft (glue : Bool) (s : List ℕ) (at : ℕ) (g : Gap) : Type 0 where
  pub end : g.end + extent (spaces (drop g.end s)) ≡ at + extent (spaces (drop at s))
  pub hard : cond (ltb 0 (parting glue (spaces (drop g.end s)))) (g.end + parting glue (spaces (drop g.end s))) g.hard ≡ at + parting glue (spaces (drop at s))
  pub order : g.hard ≤ g.end
  pub within : g.end ≤ length s

module _ (glue : Bool) (s : List ℕ) (at : ℕ) where
  pub gap_stop : (g : Gap) → GapLeft glue s at g → spaces (drop g.end s) ≡ [] → GapAt glue s at g
  unfolding parting extent
  gap_stop g l e = record { end = omega (arith, rw e at l.end); hard = rw e at l.hard; order = l.order; within = l.within }

  pub gap_more : (g r : Gap) {code next : ℕ} → GapLeft glue s at g → Here true s g.end code next → (code ≡ 10 → ⊥) → r.end ≡ next → r.hard ≡ cond (soft glue code) g.hard next → GapLeft glue s at r
  unfolding parting extent
  gap_more g r {code} {next} l h k e f =
      let m = spaces_more s g.end h k in
      let c : (glyph (drop g.end s)).code ≡ code = h.has_code in
      let n = h.count in
      let p = parting glue (spaces (drop next s)) in
      let whole : parting glue (spaces (drop g.end s)) ≡ cond (ltb 0 p || not (soft glue code)) (length (glyph (drop g.end s)).bytes + p) 0 = rw (m, c) in
      record {
        end = rw e (omega (arith, h.on, ap extent m, l.end));
        hard = rw e (go (ltb 0 p) (soft glue code) refl refl whole (rw f));
        order = rw (e, f) (pick (soft glue code));
        within = rw e h.within;
      }
    where
      pick : (t : Bool) → cond t g.hard next ≤ next
      pick true = let o = l.order in let w = h.on in omega arith
      pick false = omega arith

      go : (t u : Bool) → ltb 0 (parting glue (spaces (drop next s))) ≡ t → soft glue code ≡ u
          → parting glue (spaces (drop g.end s)) ≡ cond (ltb 0 (parting glue (spaces (drop next s))) || not (soft glue code)) (length (glyph (drop g.end s)).bytes + parting glue (spaces (drop next s))) 0
          → r.hard ≡ cond (soft glue code) g.hard next
          → cond (ltb 0 (parting glue (spaces (drop next s)))) (next + parting glue (spaces (drop next s))) r.hard ≡ at + parting glue (spaces (drop at s))
      go true u et eu w q =
          let x : parting glue (spaces (drop g.end s)) ≡ length (glyph (drop g.end s)).bytes + parting glue (spaces (drop next s)) = w ∙ ap (λ (b : Bool). cond (b || not (soft glue code)) (length (glyph (drop g.end s)).bytes + parting glue (spaces (drop next s))) 0) et in
          let y : ltb 0 (parting glue (spaces (drop g.end s))) ≡ true = lt-ltb 0 (parting glue (spaces (drop g.end s))) (omega (arith, ltb-true 0 (parting glue (spaces (drop next s))) et)) in
          let z : g.end + parting glue (spaces (drop g.end s)) ≡ at + parting glue (spaces (drop at s)) = rw y at l.hard in
          rw et (omega (arith, h.on, h.count))
      go false false et eu w q =
          let v = ltb-false 0 (parting glue (spaces (drop next s))) et in
          let x : parting glue (spaces (drop g.end s)) ≡ length (glyph (drop g.end s)).bytes + parting glue (spaces (drop next s)) = w ∙ rw (et, eu) in
          let y : ltb 0 (parting glue (spaces (drop g.end s))) ≡ true = lt-ltb 0 (parting glue (spaces (drop g.end s))) (omega (arith, h.on, h.count)) in
          let z : g.end + parting glue (spaces (drop g.end s)) ≡ at + parting glue (spaces (drop at s)) = rw y at l.hard in
          let d : r.hard ≡ next = q ∙ rw eu in
          rw et (omega (arith, h.on, h.count))
      go false true et eu w q =
          let x : parting glue (spaces (drop g.end s)) ≡ 0 = w ∙ rw (et, eu) in
          let z : g.hard ≡ at + parting glue (spaces (drop at s)) = rw x at l.hard in
          rw et (q ∙ rw eu z)

-- ---- U+00A0 in front of a word

pub record LeadLeft (word : List ℕ) (i : ℕ) : Type 0 where
  pub is : i + extent (while no_break (characters (drop i word))) ≡ lead word
  pub within : i ≤ length word

module _ (word : List ℕ) where
  pub lead_first : LeadLeft word 0
  unfolding lead
  lead_first = record { is = omega arith; within = omega arith }

  module _ (i : ℕ) (l : LeadLeft word i) where
    lead_none : while no_break (characters (drop i word)) ≡ [] → i ≡ lead word
    unfolding extent
    lead_none e = omega (arith, rw e at l.is)

    pub lead_ink : (glyph (drop i word)).blank ≡ false → (i ≡ lead word) × (i ≤ length word)
    lead_ink b = (lead_none (no_blank_none word i (λ c. eqb c 0xA0) ink_no_break b), l.within)

    pub lead_other : {code next : ℕ} → Here true word i code next → (code ≡ 0xA0 → ⊥) → (i ≡ lead word) × (i ≤ length word)
    lead_other {code} h k = (lead_none (first_none word i no_break (ap (λ (c : ℕ). eqb c 0xA0) h.has_code ∙ ne_eqb code 0xA0 k)), l.within)

    pub lead_more : {code next : ℕ} → Here true word i code next → code ≡ 0xA0 → LeadLeft word next
    unfolding extent
    lead_more {code} {next} h k =
        let e : no_break (glyph (drop i word)) ≡ true = ap (λ (c : ℕ). eqb c 0xA0) (h.has_code ∙ k) in
        let m = ap (while no_break) h.first ∙ while_more no_break (glyph (drop i word)) (characters (drop next word)) e in
        record { is = omega (arith, h.on, h.count, ap extent m, l.is); within = h.within }

-- a blank whose number is a line feed's
pub feed : {s : List ℕ} {at code next : ℕ} → code ≡ 10 → Here true s at code next → Here true s at 10 next
feed e h = rw e at h

-- whether a blank is soft, as the code has found
pub soften : (a b : ℕ) {x y : Bool} → x ≡ y → cond x a b ≡ cond y a b
soften a b e = ap (λ (t : Bool). cond t a b) e
