-- A text folded line by line: what is left to be written at a place, and how much was written up to there.
use mathlib.Core.Path.{◌≡◌, sym, ap, ◌∙◌}
use mathlib.Core.List.{List, [], ◌++◌}
use Prim.Native.Nat.{ℕ, ◌+◌, ◌-◌, ◌*◌, ◌≤◌}
use native.Mathlib.Omega.{arith}
use lib.ListN.{length, take, drop, length-drop}
use lib.Seq.{slice, take-take, length-take-le, length-slice}
use Rattle.lists.proofs.Parts.{joined_nil, joined_cons}
use Rattle.lists.proofs.Slices.{slice_is}
use Rattle.lists.proofs.Fronts.{part_to_end}
use Rattle.text.specs.Characters.{characters}
use Rattle.lines.specs.Lines.{lines_of, first_line}
use Rattle.lines.specs.declared.Extent.{Extent}
use Rattle.lines.proofs.Lines.{LineHere, lines_past}
use Rattle.output.specs.Cited.Sink.{Wrote, Left}
use Rattle.output.proofs.Sink.{left_then, left_last, wrote_nil, wrote_then}
use Rattle.fold.specs.Fold.{rows_of, in_rows, end_of, folded_line, folded}

-- the line at a place, as it is lent
abbrev pub lent : List ℕ → ℕ → ℕ → List ℕ
lent text at end = take (end - at) (drop at text)

module _ (tab columns : ℕ) where
  -- a line by its bytes and the length of its text
  abbrev pub line_is : List ℕ → ℕ → List ℕ
  line_is raw size = in_rows (rows_of tab columns (characters (take size raw))) ++ drop size raw

  -- its rows, and after them its line end
  pub line_written : {o o₁ o₂ : List ℕ} {k r : ℕ} (raw : List ℕ) (size : ℕ) → size ≤ length raw
      → Wrote o 0 (in_rows (rows_of tab columns (characters (take size raw)))) o₁ k × (k ≤ 2 * length (take size raw))
      → Wrote o₁ k (slice size (length raw) raw) o₂ r
      → Wrote o 0 (line_is raw size) o₂ r × (r ≤ 2 * length raw)
  line_written raw size h a b =
      let n : size + (length raw - size) ≡ length raw = omega arith in
      let e : slice size (length raw) raw ≡ drop size raw = ap (λ (m : ℕ). slice size m raw) (sym n) ∙ slice_is size (length raw - size) raw ∙ part_to_end size raw in
      (rw (← e) (wrote_then a.0 b), omega (arith, b.count, a.1, length-take-le size raw h, length-slice size (length raw) raw (omega arith)))

  module _ (text : List ℕ) where
    module _ (at : ℕ) (e : Extent) (h : LineHere text at e) where
      lent_is : lent text at (at + e.whole) ≡ take e.whole (drop at text)
      lent_is = let n : at + e.whole - at ≡ e.whole = omega arith in rw n

      text_is : (first_line (drop at text)).text ≡ take e.text (lent text at (at + e.whole))
      text_is = h.text ∙ slice_is at e.text text ∙ rw (lent_is) (sym (take-take e.text e.whole (drop at text) h.shorter))

      raw_is : (first_line (drop at text)).raw ≡ lent text at (at + e.whole)
      raw_is = h.raw ∙ slice_is at e.whole text ∙ sym lent_is

      pub lent_length : length (lent text at (at + e.whole)) ≡ e.whole
      lent_length = rw lent_is (length-take-le e.whole (drop at text) (omega (arith, length-drop at text, h.within)))

      size_is : length (first_line (drop at text)).text ≡ e.text
      size_is = rw text_is (length-take-le e.text (lent text at (at + e.whole)) (omega (arith, lent_length, h.shorter)))

      line_here : folded_line tab columns (first_line (drop at text)) ≡ line_is (lent text at (at + e.whole)) e.text
      unfolding folded_line end_of
      line_here = rw (size_is, text_is, raw_is)

      folded_here : folded tab columns (drop at text) ≡ line_is (lent text at (at + e.whole)) e.text ++ folded tab columns (drop (at + e.whole) text)
      unfolding folded
      folded_here = rw (h.first, joined_cons (folded_line tab columns) (first_line (drop at text)) (lines_of (drop (at + e.whole) text)), line_here)

    folded_past : (at : ℕ) → length text ≤ at → folded tab columns (drop at text) ≡ []
    unfolding folded
    folded_past at h = rw (lines_past text at h) (joined_nil (folded_line tab columns))

    -- ---- the turns

    pub record Passing (out₀ : List ℕ) (at k : ℕ) (out : List ℕ) : Type 0 where
      pub within : at ≤ length text
      pub bounded : k ≤ 2 * at
      pub left : Left out₀ 0 (folded tab columns text) out k (folded tab columns (drop at text))

    module _ {out₀ out : List ℕ} {at k : ℕ} (p : Passing out₀ at k out) where
      pub passing_line : {e : Extent} {out' : List ℕ} {r : ℕ} → LineHere text at e → r ≤ 2 * length (lent text at (at + e.whole))
          → Wrote out k (line_is (lent text at (at + e.whole)) e.text) out' (k + r) → Passing out₀ (at + e.whole) (k + r) out'
      passing_line {e} h few w =
          record {
            within = h.within;
            bounded = omega (arith, few, lent_length at e h, p.bounded);
            left = left_then (rw (folded_here at e h) at p.left) w;
          }

      pub passing_last : length text ≤ at → Wrote out₀ 0 (folded tab columns text) out k × (k ≤ 2 * length text)
      passing_last h = (left_last (rw (folded_past at h) at p.left) (wrote_nil out k), omega (arith, p.bounded, p.within))
