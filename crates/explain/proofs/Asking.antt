-- A line that is found among a paragraph's breaks ends as the definition says.
use mathlib.Core.Path.{◌≡◌, refl, sym, ap, ◌∙◌}
use mathlib.Core.Bool.{Bool, true, false}
use mathlib.Core.List.{List, [], ◌∷◌}
use Prim.Native.Nat.{ℕ, zero, suc, ◌+◌, ◌-◌, ◌≤◌, ◌<◌}
use native.Mathlib.Omega.{arith}
use lib.ListN.{length, get_or}
use borrow.Author.Tests.{lt-ltb, le-ltb}
use Rattle.records.specs.Word.{Word}
use Rattle.spacing.specs.declared.Setting.{Setting}
use Rattle.endings.specs.declared.Ending.{Ending}
use Rattle.endings.specs.declared.Ending.TheVariants.{Paragraph}
use Rattle.endings.specs.declared.Spot.{Spot}
use Rattle.endings.specs.declared.Spot.TheVariants.{Before, Last, Behind as BehindAll}
use Rattle.endings.specs.Endings.{Next, goes_on, ended, is_ended, breaks, endings}
use Rattle.endings.specs.Cited.Spots.{spot_of}
use Rattle.endings.proofs.Spots.{EndsAt, spot_ends, spot_is_last, spot_is_behind}
use Rattle.quick.proofs.Lines.{breaks_are_quick's}
use Rattle.knuth_plass.specs.KnuthPlass.{Place, starts_line, path_of}
use Rattle.knuth_plass.specs.BestLines.{makers_of, next_at, nexts_from, best_lines}
use Rattle.knuth_plass.proofs.Asked.{path_tells, next_is, breaks_are_the_best}
use Rattle.paragraphs.specs.Breaks.{breaks_by}
use Rattle.explain.specs.Reasons.{lines_by}
use Rattle.explain.specs.Cited.Asking.{EndsSo, passed}
use Rattle.explain.specs.declared.Asked.TheVariants.{Told, Behind}

-- forgetting why, the lines are the formatter's breaks
pub breaks_are : (fast : Bool) (g : Setting) (ws : List Word) → breaks (lines_by fast g ws) ≡ breaks_by fast g ws
breaks_are true g ws = breaks_are_quick's g ws
breaks_are false g ws = breaks_are_the_best g ws

-- there is a mark for each word
-- the line asked for is one of those passed, or stands so many lines after them
passed_here : (es : List Ending) (left : ℕ) (e : Ending) → left < length es → e ≡ get_or es left Paragraph → Told e ≡ passed es (Behind left)
unfolding passed
passed_here es left e h is = sym (rw (lt-ltb left (length es) h, ← is))

passed_on : (es : List Ending) (left rest : ℕ) → left ≡ rest + length es → Behind rest ≡ passed es (Behind left)
unfolding passed
passed_on es left rest h = sym (rw (le-ltb left (length es) (omega arith)) (ap Behind (omega arith)))

abbrev ending_of : Next → Ending
ending_of goes_on = Paragraph
ending_of (ended e) = e

next_at_path : (makers : List Ending) (path : List Place) (i k : ℕ) (ws : List Word) → k < length ws → get_or (nexts_from makers path i ws) k goes_on ≡ next_at makers (i + k) path
unfolding nexts_from
next_at_path makers path i k [] h = absurd (omega arith)
next_at_path makers path i zero (w ∷ ws) h = ap (λ (j : ℕ). next_at makers j path) (omega arith)
next_at_path makers path i (suc k) (w ∷ ws) h = next_at_path makers path (suc i) k ws (omega arith) ∙ ap (λ (j : ℕ). next_at makers j path) (omega arith)

pub nexts_length : (makers : List Ending) (path : List Place) (i : ℕ) (ws : List Word) → length (nexts_from makers path i ws) ≡ length ws
unfolding nexts_from
nexts_length makers path i [] = refl
nexts_length makers path i (w ∷ ws) = ap suc (nexts_length makers path (suc i) ws)

-- the break of the path that starts a line with word e
best_at : (g : Setting) (ws : List Word) (e : ℕ) (x : Ending) → 1 ≤ e → e < 1 + length (best_lines g ws) → get_or (best_lines g ws) (e - 1) goes_on ≡ ended x
    → (e < length ws) × (next_at (makers_of g ws) e (path_of g ws) ≡ ended x)
unfolding best_lines
best_at g [] e x some h q = absurd (omega arith)
best_at g (w ∷ ws) e x some h q =
    let l = nexts_length (makers_of g (w ∷ ws)) (path_of g (w ∷ ws)) 1 ws in
    let j : 1 + (e - 1) ≡ e = omega arith in
    (omega arith, ap (λ (k : ℕ). next_at (makers_of g (w ∷ ws)) k (path_of g (w ∷ ws))) (sym j) ∙ sym (next_at_path (makers_of g (w ∷ ws)) (path_of g (w ∷ ws)) 1 (e - 1) ws (omega arith)) ∙ q)

ends_best : (g : Setting) (ws : List Word) (line e : ℕ) (r : Ending) → EndsAt (best_lines g ws) 1 line e → EndsSo false g line e ws r → r ≡ get_or (endings (best_lines g ws)) line Paragraph
ends_best g ws line e r h ends =
    let at = best_at g ws e (get_or (endings (best_lines g ws)) line Paragraph) h.from h.within h.is in
    let starts : starts_line e (path_of g ws) ≡ true = sym (next_is (makers_of g ws) e (path_of g ws)) ∙ ap is_ended at.1 in
    ap ending_of (ap ended ends ∙ sym (path_tells (makers_of g ws) e h.from (path_of g ws) starts) ∙ at.1)

module _ (fast : Bool) (g : Setting) (line : ℕ) (ws : List Word) (marked : List Bool) (is : marked ≡ breaks_by fast g ws) where
  as_lines : (s : Spot) → s ≡ spot_of marked 1 line → spot_of (breaks (lines_by fast g ws)) 1 line ≡ s
  as_lines s h = rw (breaks_are fast g ws, ← is) (sym h)

  pub asked_last : Last ≡ spot_of marked 1 line → Told Paragraph ≡ passed (endings (lines_by fast g ws)) (Behind line)
  asked_last h = let r = spot_is_last (lines_by fast g ws) 1 line (as_lines Last h) in let l = r.0 in passed_here (endings (lines_by fast g ws)) line Paragraph (omega arith) (sym r.1)

  pub asked_behind : (rest : ℕ) → BehindAll rest ≡ spot_of marked 1 line → Behind rest ≡ passed (endings (lines_by fast g ws)) (Behind line)
  asked_behind rest h = passed_on (endings (lines_by fast g ws)) line rest (spot_is_behind (lines_by fast g ws) 1 line rest (as_lines (BehindAll rest) h))

  pub asked_before : (e : ℕ) (r : Ending) → Before e ≡ spot_of marked 1 line → EndsSo fast g line e ws r → Told r ≡ passed (endings (lines_by fast g ws)) (Behind line)
  asked_before e r h ends = let at = spot_ends (lines_by fast g ws) 1 line e (as_lines (Before e) h) in passed_here (endings (lines_by fast g ws)) line r at.some (ends_by fast at ends) where
    ends_by : (x : Bool) → EndsAt (lines_by x g ws) 1 line e → EndsSo x g line e ws r → r ≡ get_or (endings (lines_by x g ws)) line Paragraph
    ends_by true at ends = ends
    ends_by false at ends = ends_best g ws line e r at ends

  -- no line ends before the first word
  pub before_some : (e : ℕ) → Before e ≡ spot_of marked 1 line → 1 ≤ e
  before_some e h = (spot_ends (lines_by fast g ws) 1 line e (as_lines (Before e) h)).from

  -- nor after the last
  pub before_within : (e : ℕ) → Before e ≡ spot_of marked 1 line → e < 1 + length (lines_by fast g ws)
  before_within e h = (spot_ends (lines_by fast g ws) 1 line e (as_lines (Before e) h)).within
