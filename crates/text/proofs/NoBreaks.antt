-- U+00A0: its two bytes at a place tell it; and a run of it, with what is after it.
use mathlib.Core.Path.{◌≡◌, refl, sym, ap, ◌∙◌}
use mathlib.Core.Bool.{Bool, true, false, not, and-eq-true_iff, false≢true}
use mathlib.Core.List.{List, [], ◌∷◌, ◌++◌}
use Prim.Native.Nat.{ℕ, ◌+◌, ◌*◌, ◌≤◌, ◌<◌}
use native.Mathlib.Omega.{arith}
use lib.Dec.{ltb}
use lib.ListN.{length, get_or, drop, length-drop, take-append-drop}
use lib.Seq.{get_or-drop}
use borrow.Author.Tests.{ltb-true, ltb-false, eqb-true, eq-eqb}
use Rattle.lists.specs.Runs.{while}
use Rattle.lists.specs.Theorems.All.{All}
use Rattle.lists.proofs.Runs.{while_more, while_end}
use Rattle.lists.proofs.Parts.{while_nil}
use Rattle.text.specs.Rfc3629.{encode}
use Rattle.widths.specs.Widths.{width_of}
use Rattle.widths.specs.WhiteSpace.{white_space}
use Rattle.text.specs.Characters.{Glyph, glyph, characters, no_break, ink_ahead, extent}
use Rattle.text.specs.Cited.Places.{pair_code, Pair, no_break_at, glued_extent, RunOver}
use Rattle.text.proofs.Forms.{within, lead}
use Rattle.text.proofs.Glyphs.{Here, bytes_of_part, characters_past, characters_first}
use Rattle.text.proofs.Letters.{pair_here}
use Rattle.text.proofs.Extents.{Read, glyph_read}
use Rattle.text.proofs.Glue.{ahead_none, ahead_run, ahead_other}

-- one that was read
module _ (g : Glyph) (r : Read g) (h : no_break g ≡ true) where
  pub no_break_blank : g.blank ≡ true
  unfolding white_space
  no_break_blank = sym r.is_blank ∙ ap white_space (eqb-true g.code 0xA0 h)

  pub no_break_bytes : g.bytes ≡ 0xC2 ∷ 0xA0 ∷ []
  unfolding encode
  no_break_bytes = r.is_sound.octets no_break_blank ∙ ap encode (eqb-true g.code 0xA0 h)

  pub no_break_width : g.width ≡ width_of 0xA0
  no_break_width = r.has_width (r.is_sound.good no_break_blank) ∙ ap width_of (eqb-true g.code 0xA0 h)

-- a run of them: each has two bytes
pub run_bytes : (gs : List Glyph) → All Read gs → extent (while no_break gs) ≡ 2 * length (while no_break gs)
unfolding while extent
run_bytes [] a = refl
run_bytes (g ∷ gs) a = pick (no_break g) refl (run_bytes gs a.1)
  where
    pick : (n : Bool) → no_break g ≡ n → extent (while no_break gs) ≡ 2 * length (while no_break gs) → extent (while no_break (g ∷ gs)) ≡ 2 * length (while no_break (g ∷ gs))
    pick true h e = rw (while_more no_break g gs h) (let l = ap length (no_break_bytes g a.0 h) in omega arith)
    pick false h e = rw (while_end no_break g gs h)

module _ (s : List ℕ) (at : ℕ) where
  pub no_break_here : no_break_at s at ≡ true → Here true s at 0xA0 (at + 2)
  unfolding no_break_at white_space
  no_break_here e =
      let b = (and-eq-true_iff _ _).0 e in
      let x : get_or s at 0 ≡ 0xC2 = eqb-true _ _ b.0 in
      let y : get_or s (at + 1) 0 ≡ 0xA0 = eqb-true _ _ b.1 in
      let c : pair_code s at ≡ 0xA0 = rw (x, y) in
      let p : Pair s at = record { within = within s (at + 1) (omega arith); least = omega arith; most = omega arith; second = rw y } in
      rw c at (pair_here s at p)

  pub no_break_other : at < length s → no_break_at s at ≡ false → no_break (glyph (drop at s)) ≡ false
  unfolding no_break_at
  no_break_other h e = pick (no_break (glyph (drop at s))) refl
    where
      l : 0 < length (drop at s)
      l = simp length-drop (omega arith)

      pick : (t : Bool) → no_break (glyph (drop at s)) ≡ t → t ≡ false
      pick false n = refl
      pick true n =
          let b = bytes_of_part (drop at s) l in
          let o = no_break_bytes (glyph (drop at s)) (glyph_read (drop at s) l) n in
          let k : drop at s ≡ (0xC2 ∷ 0xA0 ∷ []) ++ drop b.n (drop at s) = sym (take-append-drop b.n (drop at s)) ∙ ap (λ (z : List ℕ). z ++ drop b.n (drop at s)) (sym b.are ∙ o) in
          let x : get_or s at 0 ≡ 0xC2 = lead s at h ∙ ap (λ (z : List ℕ). get_or z 0 0) k in
          let y : get_or s (at + 1) 0 ≡ 0xA0 = sym (get_or-drop at s 1 0) ∙ ap (λ (z : List ℕ). get_or z 1 0) k in
          absurd (false≢true (sym e ∙ rw (x, y)))

  -- where none stands
  run_none : no_break_at s at ≡ false → extent (while no_break (characters (drop at s))) ≡ 0
  unfolding extent
  run_none e = pick (ltb at (length s)) refl
    where
      pick : (t : Bool) → ltb at (length s) ≡ t → extent (while no_break (characters (drop at s))) ≡ 0
      pick true h =
          let l = ltb-true at (length s) h in
          rw (characters_first s at l, while_end no_break (glyph (drop at s)) (characters (drop (at + length (glyph (drop at s)).bytes) s)) (no_break_other l e))
      pick false h = rw (characters_past s at (ltb-false at (length s) h), while_nil no_break)

-- a run of U+00A0 by what is left of it: its end, and what is after it
pub record RunLeft (s : List ℕ) (at i : ℕ) : Type 0 where
  pub run : i + extent (while no_break (characters (drop i s))) ≡ at + extent (while no_break (characters (drop at s)))
  pub ahead : ink_ahead (characters (drop i s)) ≡ ink_ahead (characters (drop at s))
  pub within : i ≤ length s

module _ (s : List ℕ) (at : ℕ) where
  module _ (i : ℕ) (l : RunLeft s at i) where
    pub run_more : no_break_at s i ≡ true → RunLeft s at (i + 2)
    unfolding extent
    run_more e =
        let g = no_break_here s i e in
        let n : no_break (glyph (drop i s)) ≡ true = eq-eqb _ _ g.has_code in
        let w : extent (while no_break (characters (drop i s))) ≡ 2 + extent (while no_break (characters (drop (i + 2) s))) = rw (g.first, while_more no_break (glyph (drop i s)) (characters (drop (i + 2) s)) n) (let c = g.count in omega arith) in
        record {
          run = omega (arith, l.run);
          ahead = sym (ap ink_ahead g.first ∙ ahead_run (glyph (drop i s)) (characters (drop (i + 2) s)) n) ∙ l.ahead;
          within = g.within;
        }

    pub run_last : no_break_at s i ≡ false → RunOver s at i
    run_last e = record { run = omega (arith, l.run, run_none s i e); ahead = sym l.ahead; stops = e; within = l.within }

-- whether ink is at a place where there is no U+00A0
module _ (s : List ℕ) (at : ℕ) where
  pub ink_past : length s ≤ at → false ≡ ink_ahead (characters (drop at s))
  ink_past h = rw (characters_past s at h, ahead_none)

  pub ink_first : at < length s → no_break_at s at ≡ false → ink_ahead (characters (drop at s)) ≡ not (glyph (drop at s)).blank
  ink_first h e = ap ink_ahead (characters_first s at h) ∙ ahead_other (glyph (drop at s)) (characters (drop (at + length (glyph (drop at s)).bytes) s)) (no_break_other s at h e)

  -- the end of those that are ordinary after ink
  module _ (end : ℕ) (r : RunOver s at end) where
    pub glued_all : ink_ahead (characters (drop end s)) ≡ true → end ≡ at + glued_extent (characters (drop at s))
    unfolding glued_extent
    glued_all e = rw (r.ahead, e) r.run

    pub glued_none : ink_ahead (characters (drop end s)) ≡ false → at ≡ at + glued_extent (characters (drop at s))
    unfolding glued_extent
    glued_none e = rw (r.ahead, e) (omega arith)

-- from the answer of glued_end at U+00A0: whether it moved
pub ahead_moved : (gs : List Glyph) → (glued_extent gs ≡ 0 → ⊥) → ink_ahead gs ≡ true
unfolding glued_extent
ahead_moved gs h = pick (ink_ahead gs) refl
  where
    pick : (t : Bool) → ink_ahead gs ≡ t → t ≡ true
    pick true e = refl
    pick false e = absurd (h (rw e))

pub ahead_stayed : (s : List ℕ) (at : ℕ) → no_break_at s at ≡ true → glued_extent (characters (drop at s)) ≡ 0 → ink_ahead (characters (drop at s)) ≡ false
unfolding glued_extent extent
ahead_stayed s at n h = pick (ink_ahead (characters (drop at s))) refl
  where
    pick : (t : Bool) → ink_ahead (characters (drop at s)) ≡ t → t ≡ false
    pick false e = refl
    pick true e =
        let g = no_break_here s at n in
        let w = while_more no_break (glyph (drop at s)) (characters (drop (at + 2) s)) (eq-eqb _ _ g.has_code) in
        let z : extent (while no_break (characters (drop at s))) ≡ 0 = rw e at h in
        let y : length (glyph (drop at s)).bytes + extent (while no_break (characters (drop (at + 2) s))) ≡ 0 = rw (g.first, w) at z in
        absurd (omega (arith, g.count))
