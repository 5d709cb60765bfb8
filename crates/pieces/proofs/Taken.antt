-- The lines that a piece takes: the line that begins at a place of the notes, and lines after it.
use mathlib.Core.Path.{◌≡◌, refl, sym, ap, ◌∙◌}
use mathlib.Core.List.{List, [], ◌∷◌}
use Prim.Native.Nat.{ℕ, suc, ◌+◌, ◌≤◌, ◌<◌}
use native.Mathlib.Omega.{arith}
use lib.ListN.{length, take, drop}
use lib.Seq.{slice}
use Rattle.lines.specs.Lines.{Line, first_line, lines_of}
use Rattle.lines.specs.Cited.Places.{lengths_of}
use Rattle.lines.proofs.Lines.{line_here}
use Rattle.pieces.specs.Cited.Places.{taken}
use Rattle.pieces.proofs.Following.{taken_none, taken_more}
use Rattle.pieces.proofs.Fronts.{lines_front}

module _ (notes : List ℕ) (at : ℕ) where
  -- the first line, the place after it, and the lines from there on
  unfoldable pub line_at : Line
  line_at = first_line (drop at notes)

  unfoldable pub behind_at : ℕ
  behind_at = at + length (first_line (drop at notes)).raw

  unfoldable pub rest_at : List Line
  unfolding behind_at
  rest_at = lines_of (drop behind_at notes)

  module _ (inside : at < length notes) where
    pub record Here : Type 0 where
      pub first : lines_of (drop at notes) ≡ line_at ∷ rest_at
      pub text : line_at.text ≡ slice at (at + length line_at.text) notes
      pub shorter : length line_at.text ≤ length line_at.raw
      pub on : 0 < length line_at.raw
      pub within : behind_at ≤ length notes

    pub here : Here
    unfolding line_at rest_at behind_at lengths_of
    here =
        let h = line_here notes at (lengths_of (first_line (drop at notes))) inside refl in
        record { first = h.first; text = h.text; shorter = h.shorter; on = h.on; within = h.within }

    -- n lines after the first
    pub record Lines (n next : ℕ) : Type 0 where
      pub count : at + taken (line_at ∷ take n rest_at) ≡ next
      pub more : drop n rest_at ≡ lines_of (drop next notes)
      pub are : line_at ∷ take n rest_at ≡ lines_of (slice at next notes)
      pub on : at < next
      pub most : next ≤ length notes

    pub lines_are : (n : ℕ) → Lines n (behind_at + taken (take n rest_at))
    unfolding behind_at line_at
    lines_are n =
        let h = here in
        let f = lines_front notes (suc n) at (omega arith) in
        let c = taken_more line_at (take n rest_at) in
        let e : at + taken (take (suc n) (lines_of (drop at notes))) ≡ behind_at + taken (take n rest_at) = rw h.first (omega arith) in
        record {
          count = omega arith;
          more = ap (drop (suc n)) (sym h.first) ∙ f.behind ∙ ap (λ (j : ℕ). lines_of (drop j notes)) e;
          are = ap (take (suc n)) (sym h.first) ∙ f.are ∙ ap (λ (j : ℕ). lines_of (slice at j notes)) e;
          on = omega (arith, h.on);
          most = omega (arith, f.within);
        }

    pub alone_lines : Lines 0 behind_at
    alone_lines =
        let e : behind_at + taken [] ≡ behind_at = rw taken_none (omega arith) in
        rw e at (lines_are 0)
