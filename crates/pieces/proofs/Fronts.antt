-- Lines at the front of the lines from a place on: they are the lines of the bytes that they take, and the others are those after.
use mathlib.Core.Path.{◌≡◌, refl, sym, ap, ap₂, ◌∙◌}
use mathlib.Core.Bool.{Bool, true, false}
use mathlib.Core.List.{List, [], ◌∷◌}
use Prim.Native.Nat.{ℕ, zero, suc, min, ◌+◌, ◌≤◌, ◌<◌}
use native.Mathlib.Omega.{arith}
use lib.Dec.{ltb}
use lib.ListN.{length, take, drop, length-take}
use lib.Seq.{slice, take-nil, take_all, take-take, length-take-le}
use borrow.Author.Tests.{lt-ltb, le-ltb, ltb-true, ltb-false}
use Rattle.lists.specs.Runs.{while}
use Rattle.lists.proofs.Runs.{while_more, while_end}
use Rattle.lists.proofs.Slices.{slice_is}
use Rattle.lines.specs.Lines.{Line, no_feed, body, first_line, lines_of}
use Rattle.lines.specs.Cited.Places.{lengths_of}
use Rattle.lines.proofs.Lines.{lines_past, line_here}
use Rattle.pieces.specs.Cited.Places.{taken}
use Rattle.pieces.proofs.Following.{taken_none, taken_more}

-- a run that ends inside the front of a list is the list's
while_take : {A : Type 0} (test : A → Bool) (n : ℕ) (xs : List A) → length (while test xs) < n → while test (take n xs) ≡ while test xs
while_take test n [] h = rw take-nil
while_take test zero (x ∷ xs) h = absurd (omega arith)
while_take test (suc n) (x ∷ xs) h = go (test x) refl (while_take test n xs)
  where
    go : (b : Bool) → test x ≡ b → (length (while test xs) < n → while test (take n xs) ≡ while test xs) → while test (x ∷ take n xs) ≡ while test (x ∷ xs)
    go true e ih = rw (while_more test x (take n xs) e, while_more test x xs e, ih (omega (arith, ap length (while_more test x xs e))))
    go false e ih = rw (while_end test x (take n xs) e, while_end test x xs e)

body_take : (n : ℕ) (xs : List ℕ) → length (body xs) < n → body (take n xs) ≡ body xs
unfolding body
body_take n xs h = while_take no_feed n xs h

within_both : (b n m : ℕ) → b < n → ltb b (min n m) ≡ ltb b m
within_both b n m h = go (ltb b m) refl
  where
    go : (t : Bool) → ltb b m ≡ t → ltb b (min n m) ≡ t
    go true e = lt-ltb b (min n m) (omega (arith, ltb-true b m e))
    go false e = le-ltb b (min n m) (omega (arith, ltb-false b m e))

-- the first line of a text is that of a front that holds it
first_take : (n : ℕ) (xs : List ℕ) → length (first_line xs).raw ≤ n → first_line (take n xs) ≡ first_line xs
unfolding first_line
first_take n xs h = go (ltb (length (body xs)) n) refl
  where
    go : (t : Bool) → ltb (length (body xs)) n ≡ t → first_line (take n xs) ≡ first_line xs
    go true e =
        let k = ltb-true (length (body xs)) n e in
        rw (body_take n xs k, take-take (suc (length (body xs))) n xs k, length-take n xs, within_both (length (body xs)) n (length xs) k)
    go false e = ap first_line (take_all n xs (omega (arith, ltb-false (length (body xs)) n e, rw length-take at h)))

-- k lines from a place on, which take m bytes
pub record Front (notes : List ℕ) (k i m : ℕ) : Type 0 where
  pub within : i + m ≤ length notes
  pub behind : drop k (lines_of (drop i notes)) ≡ lines_of (drop (i + m) notes)
  pub are : take k (lines_of (drop i notes)) ≡ lines_of (slice i (i + m) notes)

no_lines : lines_of [] ≡ []
no_lines = lines_past [] 0 (omega arith)

module _ (notes : List ℕ) where
  front_none : (k i : ℕ) → i ≤ length notes → take k (lines_of (drop i notes)) ≡ [] → drop k (lines_of (drop i notes)) ≡ lines_of (drop i notes) → Front notes k i (taken (take k (lines_of (drop i notes))))
  front_none k i h e d =
      let z : i + 0 ≡ i = omega arith in
      rw (e, taken_none) (record { within = omega arith; behind = rw z d; are = rw (e, slice_is i 0 notes) (sym no_lines) })

  -- a line and what is after it, cut at the same place
  module _ (i w m : ℕ) (first : lines_of (drop i notes) ≡ first_line (drop i notes) ∷ lines_of (drop (i + w) notes))
      (raw : length (first_line (drop i notes)).raw ≡ w) (on : 0 < w) (fits : i + w + m ≤ length notes) where
    cut_line : first_line (slice i (i + (w + m)) notes) ≡ first_line (drop i notes)
    cut_line = ap first_line (slice_is i (w + m) notes) ∙ first_take (w + m) (drop i notes) (omega arith)

    cut_lines : lines_of (slice i (i + (w + m)) notes) ≡ first_line (drop i notes) ∷ lines_of (slice (i + w) (i + w + m) notes)
    unfolding lengths_of
    cut_lines =
        let s = take (i + (w + m)) notes in
        let l : length s ≡ i + (w + m) = length-take-le (i + (w + m)) notes (omega arith) in
        let here = line_here s i (lengths_of (first_line (drop i s))) (omega arith) refl in
        let n : i + length (first_line (slice i (i + (w + m)) notes)).raw ≡ i + w = rw (cut_line, raw) in
        let b : i + (w + m) ≡ i + w + m = omega arith in
        here.first ∙ ap₂ (λ (x : Line) (ys : List Line). x ∷ ys) cut_line (ap (λ (j : ℕ). lines_of (drop j s)) n ∙ ap (λ (j : ℕ). lines_of (slice (i + w) j notes)) b)

  pub lines_front : (k i : ℕ) → i ≤ length notes → Front notes k i (taken (take k (lines_of (drop i notes))))
  unfolding lengths_of
  lines_front zero i h = front_none zero i h refl refl
  lines_front (suc k) i h = go (ltb i (length notes)) refl (lines_front k)
    where
      go : (t : Bool) → ltb i (length notes) ≡ t → ((j : ℕ) → j ≤ length notes → Front notes k j (taken (take k (lines_of (drop j notes))))) → Front notes (suc k) i (taken (take (suc k) (lines_of (drop i notes))))
      go false e rest = let p = lines_past notes i (ltb-false i (length notes) e) in front_none (suc k) i h (rw p) (rw p)
      go true e rest =
          let here = line_here notes i (lengths_of (first_line (drop i notes))) (ltb-true i (length notes) e) refl in
          let w = length (first_line (drop i notes)).raw in
          let f = rest (i + w) here.within in
          let m = taken (take k (lines_of (drop (i + w) notes))) in
          let a : i + (w + m) ≡ i + w + m = omega arith in
          rw (here.first, taken_more) (record {
            within = omega (arith, f.within);
            behind = rw (here.first, a) f.behind;
            are = rw (here.first, cut_lines i w m here.first refl here.on f.within) (ap (λ (ys : List Line). first_line (drop i notes) ∷ ys) f.are);
          })
