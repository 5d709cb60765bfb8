-- A text read line by line: what is left to be written at a place, and how much was written up to there.
use mathlib.Core.Path.{◌≡◌, ap, ◌∙◌}
use mathlib.Core.Bool.{Bool, true, false, cond, not}
use mathlib.Core.List.{List, [], ◌∷◌, ◌++◌, map}
use Prim.Native.Nat.{ℕ, ◌+◌, ◌-◌, ◌*◌, ◌≤◌}
use native.Mathlib.Omega.{arith}
use lib.ListN.{length, take, drop, replicate, length-append, length-replicate, length-drop, length-take}
use Rattle.lists.proofs.Slices.{slice_is}
use Rattle.lines.specs.Lines.{Line as LineOf, lines_of, first_line}
use Rattle.lines.specs.declared.Extent.{Extent}
use Rattle.lines.proofs.Lines.{LineHere, lines_past}
use Rattle.output.specs.Cited.Sink.{Wrote, Left}
use Rattle.output.proofs.Sink.{left_first, left_then, left_last}
use Rattle.unflow.specs.Flowed.{space, quote_mark, quote_depth, needs_space, stuffing, content_of, is_soft}
use Rattle.unflow.specs.Unflow.{mail_lines, unflowed}
use Rattle.unflow.specs.Cited.Steps.{Parted, joins, end_of, start_of, placed, placed_from}
use Rattle.unflow.specs.declared.Line.{Line}
use Rattle.unflow.proofs.Paragraphs.{written_lines}

-- ---- how long the parts get

pub stuffing_most : (c : List ℕ) → length (stuffing c) ≤ 1
unfolding stuffing
stuffing_most c = go (needs_space c)
  where
    go : (b : Bool) → length (cond b (space ∷ []) []) ≤ 1
    go true = omega arith
    go false = omega arith

pub end_most : (b : Bool) → length (end_of b) ≤ 2
unfolding end_of
end_most true = omega arith
end_most false = omega arith

ends_most : (b : Bool) → length (end_of (not b)) + length (end_of b) ≤ 2
unfolding end_of
ends_most true = omega arith
ends_most false = omega arith

module _ (line : List ℕ) (l : Line) (p : Parted line l) where
  content_most : quote_depth line + length (content_of line) ≤ length line
  content_most = omega (arith, p.depth, p.order, p.within, ap length p.content, length-drop l.start line)

  pub start_most : (going : Bool) (depth : ℕ) → length (start_of going depth line) ≤ length (end_of going) + quote_depth line + 1
  unfolding start_of
  start_most going depth = go (joins going depth line)
    where
      go : (b : Bool) → length (cond b [] (end_of going ++ (replicate (quote_depth line) quote_mark ++ stuffing (content_of line)))) ≤ length (end_of going) + quote_depth line + 1
      go true = omega arith
      go false = simp (length-append, length-replicate) (omega (arith, stuffing_most (content_of line)))

  pub placed_most : (going : Bool) (depth : ℕ) → length (placed going depth line) + length (end_of (is_soft line)) ≤ length (end_of going) + length line + 3
  unfolding placed
  placed_most going depth = simp length-append (omega (arith, start_most going depth, content_most, ends_most (is_soft line)))

-- ---- the lines from a place on

-- the text of the line at a place, as it is lent
abbrev lent : List ℕ → ℕ → Extent → List ℕ
lent text at e = take (at + e.text - at) (drop at text)

module _ (text : List ℕ) (at : ℕ) (e : Extent) (h : LineHere text at e) where
  lent_is : (first_line (drop at text)).text ≡ lent text at e
  lent_is = let n : at + e.text - at ≡ e.text = omega arith in rw n (h.text ∙ slice_is at e.text text)

  lent_length : length (lent text at e) ≤ e.whole
  lent_length = rw length-take (omega (arith, h.shorter))

  pub lent_short : length text ≤ 65536 → length (lent text at e) ≤ 65536
  lent_short k = omega (arith, lent_length, h.within)

  mail_here : mail_lines (drop at text) ≡ lent text at e ∷ mail_lines (drop (at + e.whole) text)
  unfolding mail_lines
  mail_here = ap (map (λ (l : LineOf). l.text)) h.first ∙ ap (λ (x : List ℕ). x ∷ map (λ (l : LineOf). l.text) (lines_of (drop (at + e.whole) text))) lent_is

mail_past : (text : List ℕ) (at : ℕ) → length text ≤ at → mail_lines (drop at text) ≡ []
unfolding mail_lines
mail_past text at h = rw (lines_past text at h)

-- ---- the turns

pub record Turning (text out₀ : List ℕ) (at k : ℕ) (going : Bool) (depth : ℕ) (out : List ℕ) : Type 0 where
  pub within : at ≤ length text
  pub bounded : k + length (end_of going) ≤ 4 * at
  pub left : Left out₀ 0 (unflowed text) out k (placed_from going depth (mail_lines (drop at text)))

pub turning_first : (text out : List ℕ) → Turning text out 0 0 false 0 out
unfolding unflowed end_of
turning_first text out = record { within = omega arith; bounded = omega arith; left = rw (← written_lines (mail_lines text)) (left_first out 0 _) }

module _ {text out₀ : List ℕ} {at k : ℕ} {going : Bool} {depth : ℕ} {out : List ℕ} (t : Turning text out₀ at k going depth out) where
  pub turning_line : {e : Extent} {l : Line} {out' : List ℕ} {k' : ℕ} → LineHere text at e → Parted (lent text at e) l
      → Wrote out k (placed going depth (lent text at e)) out' k'
      → Turning text out₀ (at + e.whole) k' l.soft l.depth out'
  unfolding placed_from
  turning_line {e} {l} h p w =
      record {
        within = h.within;
        bounded = rw (← p.soft) (omega (arith, w.count, placed_most (lent text at e) l p going depth, lent_length text at e h, t.bounded, h.on));
        left = rw (← p.soft, ← p.depth) (left_then (rw (mail_here text at e h) at t.left) w);
      }

  pub turning_last : {out' : List ℕ} {k' : ℕ} → length text ≤ at → Wrote out k (end_of going) out' k' → Wrote out₀ 0 (unflowed text) out' k' × (k' ≤ 4 * length text)
  unfolding placed_from
  turning_last h w = (left_last (rw (mail_past text at h) at t.left) w, omega (arith, w.count, t.bounded, t.within))
