-- A text that ends in a line feed is a boundary of lines: its lines, and then the lines of what follows it. And a text may be cut where a
-- line begins: the lines before the cut are those of their own bytes, and so are the lines after it.
use mathlib.Core.Path.{◌≡◌, refl, sym, ap}
use mathlib.Core.Bool.{Bool, true, false, not}
use mathlib.Core.List.{List, [], ◌∷◌, ◌++◌}
use Prim.Native.Nat.{ℕ, zero, suc, ◌<◌}
use native.Mathlib.Omega.{arith}
use lib.ListN.{length, drop, length-append}
use lib.Seq.{take-append-le}
use borrow.Author.Tests.{eq-eqb, lt-ltb}
use Rattle.lists.specs.Runs.{joined}
use Rattle.lists.proofs.Runs.{while_more, while_end}
use Rattle.lists.proofs.Parts.{while_append}
use Rattle.lists.proofs.Extents.{each_append}
use Rattle.lists.proofs.Cut.{each_cut}
use Rattle.lines.specs.Lines.{Line, no_feed, body, first_line, lines_of}
use Rattle.lines.specs.Theorems.Closed.{Closed}

-- the first line of a closed text is ended
ended : (x : ℕ) (r : List ℕ) → Closed (x ∷ r) → length (body (x ∷ r)) < length (x ∷ r)
unfolding body
ended x [] c = rw (while_end no_feed x [] (ap not (eq-eqb x 10 c))) (omega arith)
ended x (y ∷ r) c = go (no_feed x) refl (ended y r c)
  where
    go : (b : Bool) → no_feed x ≡ b → length (body (y ∷ r)) < length (y ∷ r) → length (body (x ∷ y ∷ r)) < length (x ∷ y ∷ r)
    go true e h = rw (while_more no_feed x (y ∷ r) e) (omega arith)
    go false e h = rw (while_end no_feed x (y ∷ r) e) (omega arith)

pub closed_drop : (n : ℕ) (a : List ℕ) → Closed a → Closed (drop n a)
closed_drop zero a c = c
closed_drop (suc n) [] c = c
closed_drop (suc n) (x ∷ []) c = closed_drop n [] tt
closed_drop (suc n) (x ∷ y ∷ r) c = closed_drop n (y ∷ r) c

-- an ended first line stays what it is with more after the text
module _ (a b : List ℕ) (h : length (body a) < length a) where
  body_append : body (a ++ b) ≡ body a
  unfolding body
  body_append = while_append no_feed a b h

  first_line_append : first_line (a ++ b) ≡ first_line a
  unfolding first_line
  first_line_append =
      let l = length-append a b in
      rw (
        body_append,
        take-append-le (suc (length (body a))) a b h,
        lt-ltb (length (body a)) (length (a ++ b)) (omega arith),
        lt-ltb (length (body a)) (length a) h,
      )

pub lines_append : (a b : List ℕ) → Closed a → lines_of (a ++ b) ≡ lines_of a ++ lines_of b
unfolding lines_of
lines_append a b c = each_append (λ xs. length (body xs)) first_line Closed b stays a c
  where
    stays : (d : List ℕ) → Closed d → 0 < length d
        → (first_line (d ++ b) ≡ first_line d) × (length (body (d ++ b)) ≡ length (body d)) × (length (body d) < length d) × Closed (drop (suc (length (body d))) d)
    stays [] k g = absurd (omega arith)
    stays (x ∷ r) k g =
        let e = ended x r k in
        (first_line_append (x ∷ r) b e, ap length (body_append (x ∷ r) b e), e, closed_drop (suc (length (body (x ∷ r)))) (x ∷ r) k)

-- ---- cut where a line begins

-- a line that ends within the front of a text is ended there
body_within : (a b : List ℕ) → length (body (a ++ b)) < length a → length (body a) < length a
unfolding body
body_within [] b h = absurd (omega arith)
body_within (x ∷ a) b h = go (no_feed x) refl (body_within a b)
  where
    go : (t : Bool) → no_feed x ≡ t → (length (body (a ++ b)) < length a → length (body a) < length a) → length (body (x ∷ a)) < length (x ∷ a)
    go true e ih = let n = ih (omega (arith, ap length (while_more no_feed x (a ++ b) e))) in rw (while_more no_feed x a e) (omega arith)
    go false e ih = rw (while_end no_feed x a e) (omega arith)

pub lines_cut : (xs : List ℕ) (before after : List Line) → lines_of xs ≡ before ++ after
    → (lines_of (joined (λ (l : Line). l.raw) before) ≡ before) × (lines_of (joined (λ (l : Line). l.raw) after) ≡ after)
unfolding lines_of first_line
lines_cut = each_cut (λ xs. length (body xs)) first_line (λ (l : Line). l.raw) (λ xs h. refl) keeps
  where
    keeps : (a b : List ℕ) → length (body (a ++ b)) < length a → (first_line a ≡ first_line (a ++ b)) × (length (body a) ≡ length (body (a ++ b)))
    keeps a b h = let n = body_within a b h in (sym (first_line_append a b n), ap length (sym (body_append a b n)))
