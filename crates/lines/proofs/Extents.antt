-- The lines with their line ends are the text, and each has a byte; no line's text has a line feed.
use mathlib.Core.Path.{◌≡◌, refl}
use mathlib.Core.Bool.{Bool, true, false, cond, and-eq-true_iff}
use mathlib.Core.List.{List, [], ◌∷◌}
use Prim.Native.Nat.{ℕ, ◌<◌}
use native.Mathlib.Omega.{arith}
use lib.Dec.{eqb, ltb}
use lib.ListN.{length, length-take}
use Rattle.lists.specs.Runs.{every, joined}
use Rattle.lists.specs.Theorems.All.{All}
use Rattle.lists.proofs.Parts.{every_nil, every_cons, every_while}
use Rattle.lists.proofs.Extents.{each_joined, each_all}
use Rattle.lines.specs.Lines.{Line, no_feed, body, without_return, first_line, lines_of}

pub lines_extents : (xs : List ℕ) → joined (λ (l : Line). l.raw) (lines_of xs) ≡ xs
unfolding lines_of first_line
lines_extents xs = each_joined (λ ys. length (body ys)) first_line (λ (l : Line). l.raw) (λ ys h. refl) xs

pub lines_some : (xs : List ℕ) → All (λ (l : Line). 0 < length l.raw) (lines_of xs)
unfolding lines_of first_line
lines_some xs = each_all (λ ys. length (body ys)) first_line (λ (l : Line). 0 < length l.raw) (λ ys h. rw length-take (omega arith)) xs

return_feedless : (b : List ℕ) → every no_feed b ≡ true → every no_feed (without_return b) ≡ true
unfolding without_return
return_feedless [] e = e
return_feedless (x ∷ []) e = go (eqb x 13)
  where
    go : (t : Bool) → every no_feed (cond t [] (x ∷ [])) ≡ true
    go true = every_nil no_feed
    go false = e
return_feedless (x ∷ y ∷ r) e =
    let h = (and-eq-true_iff (no_feed x) (every no_feed (y ∷ r))).0 (rw (every_cons no_feed x (y ∷ r)) at e) in
    rw (every_cons no_feed x (without_return (y ∷ r)), h.0, return_feedless (y ∷ r) h.1)

body_feedless : (xs : List ℕ) → every no_feed (body xs) ≡ true
unfolding body
body_feedless xs = every_while no_feed xs

first_line_feedless : (xs : List ℕ) → every no_feed (first_line xs).text ≡ true
unfolding first_line
first_line_feedless xs = go (ltb (length (body xs)) (length xs))
  where
    go : (t : Bool) → every no_feed (cond t (without_return (body xs)) (body xs)) ≡ true
    go true = return_feedless (body xs) (body_feedless xs)
    go false = body_feedless xs

pub lines_feedless : (xs : List ℕ) → All (λ (l : Line). every no_feed l.text ≡ true) (lines_of xs)
unfolding lines_of
lines_feedless xs = each_all (λ ys. length (body ys)) first_line (λ (l : Line). every no_feed l.text ≡ true) (λ ys h. first_line_feedless ys) xs
