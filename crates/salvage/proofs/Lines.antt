-- Lines from a place on: the first of them, where its end is found.
use mathlib.Core.Path.{◌≡◌, sym, ◌∙◌}
use mathlib.Core.List.{List, [], ◌∷◌}
use Prim.Native.Nat.{ℕ, suc, ◌+◌, ◌-◌, ◌≤◌, ◌<◌}
use native.Mathlib.Omega.{arith}
use native.Mathlib.Numerals.{add-one}
use lib.ListN.{length, get_or, take, drop, length-drop}
use lib.Seq.{take_all, drop-drop, take-append-add}
use borrow.Author.Tests.{eq-eqb}
use Rattle.lists.specs.Runs.{while, behind}
use Rattle.lists.proofs.Walk.{each_nil, each_step}
use Rattle.lists.proofs.RunsAt.{run_past, run_end}
use Rattle.lists.proofs.Parts.{while_behind}
use Rattle.lists.proofs.Views.{drop_none}
use Rattle.salvage.specs.Lines.{no_feed, first_whole_line, whole_lines}
use Rattle.salvage.specs.Cited.Steps.{Run, LineAt}
use Rattle.salvage.proofs.Runs.{run_while}

pub no_lines : whole_lines [] ≡ []
unfolding whole_lines
no_lines = each_nil _ _

pub first_and_rest : (xs : List ℕ) → 0 < length xs → whole_lines xs ≡ first_whole_line xs ∷ whole_lines (drop (suc (length (while no_feed xs))) xs)
unfolding whole_lines
first_and_rest xs h = each_step _ _ xs h

-- a line by its length
pub first_line_is : (xs : List ℕ) → first_whole_line xs ≡ take (suc (length (while no_feed xs))) xs
unfolding first_whole_line
first_line_is xs =
    let w = while no_feed xs in
    let b = behind no_feed xs in
    sym (take-append-add w b 1) ∙ rw (while_behind no_feed xs, add-one)

module _ (s : List ℕ) (at i : ℕ) (h : at < length s) (r : Run no_feed s at i) where
  -- it ends after a line feed
  pub line_feed : i < length s → get_or s i 0 ≡ 10 → LineAt s at (i + 1)
  line_feed k e =
      let w = run_while no_feed s at i r in
      let f = run_end no_feed 0 s i k (rw eq-eqb) in
      let q : suc (length (while no_feed (drop at s))) ≡ i + 1 - at = omega arith in
      let n : at + (i + 1 - at) ≡ i + 1 = omega (arith, r.on) in
      record {
        on = omega (arith, r.on);
        within = omega arith;
        first = first_and_rest (drop at s) (simp length-drop (omega arith)) ∙ rw (first_line_is (drop at s), q, drop-drop (i + 1 - at) at s, n);
      }

  -- it ends with the text
  pub line_last : length s ≤ i → LineAt s at i
  line_last k =
      let w = run_while no_feed s at i r in
      let f = run_past no_feed 0 s i k in
      let q : length (while no_feed (drop at s)) ≡ i - at = omega arith in
      let l = length-drop at s in
      let n : i ≡ length s = omega (arith, r.within) in
      record {
        on = omega arith;
        within = r.within;
        first =
            first_and_rest (drop at s) (omega arith)
            ∙ rw (first_line_is (drop at s), q, take_all (suc (i - at)) (drop at s) (omega arith), take_all (i - at) (drop at s) (omega arith), drop-drop (suc (i - at)) at s, drop_none 0 s (at + suc (i - at)) (omega arith), drop_none 0 s i k);
      }
