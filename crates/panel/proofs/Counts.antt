-- How many lines a text has from a place on, byte by byte from its end; and where its newest lines begin.
use mathlib.Core.Path.{◌≡◌, refl, sym, ap, ◌∙◌}
use mathlib.Core.Bool.{Bool, true, false, ◌||◌}
use mathlib.Core.List.{List, [], ◌∷◌, ◌++◌}
use Prim.Native.Nat.{ℕ, zero, suc, ◌+◌, ◌-◌, ◌≤◌, ◌<◌}
use mir.Val.{bool_byte}
use native.Mathlib.Numerals.{add-one}
use native.Mathlib.Omega.{arith}
use lib.Dec.{eqb}
use lib.ListN.{length, get_or, take, drop, length-append, take-append-drop}
use lib.Seq.{drop_at}
use borrow.Author.Tests.{eqb-true, eqb-false}
use Rattle.lists.proofs.Walk.{each_nil, each_at}
use Rattle.lists.proofs.Views.{drop_none}
use Rattle.lines.specs.Lines.{body, first_line, lines_of}
use Rattle.lines.specs.Theorems.Closed.{Closed}
use Rattle.lines.proofs.Boundary.{lines_append}
use Rattle.lines.proofs.Lines.{body_feed, body_more}
use Rattle.panel.specs.Panel.{newest}

abbrev pub count_from : List ℕ → ℕ → ℕ
count_from s at = length (lines_of (drop at s))

module _ (s : List ℕ) where
  pub count_end : (at : ℕ) → length s ≤ at → count_from s at ≡ 0
  unfolding lines_of
  count_end at h = rw (drop_none 0 s at h, each_nil (λ xs. length (body xs)) first_line)

  -- the first line has n bytes, or runs to the end
  first : (at n : ℕ) → at < length s → suc (length (body (drop at s))) ≡ n → count_from s at ≡ suc (count_from s (at + n))
  unfolding lines_of
  first at n h e = rw (each_at (λ xs. length (body xs)) first_line s at n h e)

  pub count_feed : (at : ℕ) → at < length s → get_or s at 0 ≡ 10 → count_from s at ≡ suc (count_from s (at + 1))
  count_feed at h e = let b = body_feed s at h e in first at 1 h (omega arith)

  pub count_last : (at : ℕ) → at + 1 ≡ length s → count_from s at ≡ suc (count_from s (at + 1))
  count_last at h =
      let n = suc (length (body (drop at s))) in
      rw (first at n (omega arith) refl, count_end (at + n) (omega arith), count_end (at + 1) (omega arith))

  pub count_same : (at : ℕ) → at + 1 < length s → (get_or s at 0 ≡ 10 → ⊥) → count_from s at ≡ count_from s (at + 1)
  count_same at h ne =
      let b = body_more s at (omega arith) ne in
      let n = suc (length (body (drop at s))) in
      let m = suc (length (body (drop (at + 1) s))) in
      let e : at + n ≡ at + 1 + m = omega arith in
      rw (first at n (omega arith) refl, first (at + 1) m (omega arith) refl, e)

-- ---- where the newest lines begin

closed_at : (s : List ℕ) (last : ℕ) → last < length s → get_or s last 0 ≡ 10 → Closed (take (suc last) s)
closed_at [] last h e = absurd (omega arith)
closed_at (x ∷ xs) zero h e = e
closed_at (x ∷ []) (suc last) h e = absurd (omega arith)
closed_at (x ∷ y ∷ xs) (suc last) h e = closed_at (y ∷ xs) last (omega arith) e

pub newest_all : (s : List ℕ) → count_from s 0 ≤ 24 → lines_of (drop 0 s) ≡ newest (lines_of s)
unfolding newest
newest_all s h = let e : length (lines_of s) - 24 ≡ 0 = omega arith in rw e

-- after a line feed, with 24 lines from there on
newest_from : (s : List ℕ) (last : ℕ) → last < length s → get_or s last 0 ≡ 10 → count_from s (last + 1) ≡ 24 → lines_of (drop (last + 1) s) ≡ newest (lines_of s)
unfolding newest
newest_from s last h e n =
    let a = take (last + 1) s in
    let b = drop (last + 1) s in
    let p : lines_of s ≡ lines_of a ++ lines_of b = ap lines_of (sym (take-append-drop (last + 1) s)) ∙ lines_append a b (rw add-one (closed_at s last h e)) in
    let l = length-append (lines_of a) (lines_of b) in
    rw p (sym (drop_at (lines_of a) (lines_of b) (length (lines_of a ++ lines_of b) - 24) (omega arith)))

-- where one more line begins before a place with 24 lines after it
pub newest_here : (s : List ℕ) (last : ℕ) → last < length s → count_from s (last + 1) ≡ 24 → 24 < count_from s last → lines_of (drop (last + 1) s) ≡ newest (lines_of s)
newest_here s last h n m = go (eqb (get_or s last 0) 10) refl
  where
    go : (t : Bool) → eqb (get_or s last 0) 10 ≡ t → lines_of (drop (last + 1) s) ≡ newest (lines_of s)
    go true e = newest_from s last h (eqb-true (get_or s last 0) 10 e) n
    go false e = absurd (split (eqb (last + 1) (length s)) refl)
      where
        split : (t : Bool) → eqb (last + 1) (length s) ≡ t → ⊥
        split true f = let z = count_end s (last + 1) (omega (arith, eqb-true (last + 1) (length s) f)) in omega arith
        split false f =
            let q = eqb-false (last + 1) (length s) f in
            let z = count_same s last (omega (arith, q)) (eqb-false (get_or s last 0) 10 e) in
            omega arith

-- ---- how many more lines a text has from a byte on than from the one after it

module _ (s : List ℕ) (last : ℕ) (within : last < length s) where
  pub ends_told : (r : ℕ) → r ≡ bool_byte (eqb (last + 1) (length s) || eqb (get_or s last 0) 10) → (r ≤ 1) × (r + count_from s (last + 1) ≡ count_from s last)
  ends_told r e = go (eqb (last + 1) (length s)) refl (eqb (get_or s last 0) 10) refl
    where
      go : (t : Bool) → eqb (last + 1) (length s) ≡ t → (f : Bool) → eqb (get_or s last 0) 10 ≡ f → (r ≤ 1) × (r + count_from s (last + 1) ≡ count_from s last)
      go true h f g = let n : r ≡ 1 = e ∙ rw h in let k = count_last s last (eqb-true (last + 1) (length s) h) in (omega arith, omega arith)
      go false h true g = let n : r ≡ 1 = e ∙ rw (h, g) in let k = count_feed s last within (eqb-true (get_or s last 0) 10 g) in (omega arith, omega arith)
      go false h false g =
          let n : r ≡ 0 = e ∙ rw (h, g) in
          let k = count_same s last (omega (arith, eqb-false (last + 1) (length s) h)) (eqb-false (get_or s last 0) 10 g) in
          (omega arith, omega arith)

  pub newest_at : (n m : ℕ) → n ≡ count_from s (last + 1) → n ≤ 24 → m ≤ 1 → m + count_from s (last + 1) ≡ count_from s last → 24 < n + m → lines_of (drop (last + 1) s) ≡ newest (lines_of s)
  newest_at n m e f o b g = newest_here s last within (omega arith) (omega arith)
