-- The rows of a line from a place on: the first by its end, and those after it; what is written of them; and how much that is.
use mathlib.Core.Path.{◌≡◌, refl, sym, ap, ◌∙◌}
use mathlib.Core.Bool.{Bool, true, false}
use mathlib.Core.List.{List, [], ◌∷◌, ◌++◌}
use Prim.Native.Nat.{ℕ, zero, suc, ◌+◌, ◌-◌, ◌*◌, ◌≤◌, ◌<◌}
use native.Mathlib.Omega.{arith}
use lib.ListN.{length, take, drop, length-append, take-append-drop}
use lib.Seq.{slice, take-append_seam, drop-drop, length-slice}
use Rattle.lists.specs.Runs.{joined}
use Rattle.lists.proofs.Walk.{each_nil, each_step}
use Rattle.lists.proofs.Parts.{joined_nil, joined_cons, joined_append}
use Rattle.lists.proofs.Slices.{slice_is}
use Rattle.text.specs.Characters.{Glyph, characters, extent}
use Rattle.text.proofs.Glyphs.{bytes_of_part, characters_step, characters_past, characters_first, characters_joined}
use Rattle.lines.specs.Classes.{column_behind}
use Rattle.output.specs.Cited.Sink.{Wrote, Left}
use Rattle.output.proofs.Sink.{left_then, left_last, wrote_nil, wrote_then}
use Rattle.fold.specs.Fold.{stays, staying_on, first_row, rows_of, feed, row_bytes, fed, in_rows}
use Rattle.fold.specs.Cited.Steps.{row_end}
use Rattle.fold.proofs.Stays.{staying_more, staying_end}

-- ---- characters cut after some of them

bytes_extent : (gs : List Glyph) → length (row_bytes gs) ≡ extent gs
unfolding row_bytes extent joined
bytes_extent [] = refl
bytes_extent (g ∷ gs) = length-append g.bytes (joined (λ g. g.bytes) gs) ∙ ap (λ (n : ℕ). length g.bytes + n) (bytes_extent gs)

cut_rest : (n : ℕ) (xs : List ℕ) → drop n (characters xs) ≡ characters (drop (extent (take n (characters xs))) xs)
unfolding extent
cut_rest zero xs = refl
cut_rest (suc n) [] = rw (characters_past [] 0 (omega arith)) (sym (characters_past [] 0 (omega arith)))
cut_rest (suc n) (x ∷ xs) =
    let b = bytes_of_part (x ∷ xs) (omega arith) in
    rw (characters_step (x ∷ xs) b, b.count)
    (cut_rest n (drop b.n (x ∷ xs)) ∙ ap characters (drop-drop (extent (take n (characters (drop b.n (x ∷ xs))))) b.n (x ∷ xs)))

cut_front : (n : ℕ) (xs : List ℕ) → row_bytes (take n (characters xs)) ≡ take (extent (take n (characters xs))) xs
unfolding row_bytes
cut_front n xs =
    let a = take n (characters xs) in
    let e : xs ≡ joined (λ (g : Glyph). g.bytes) a ++ joined (λ (g : Glyph). g.bytes) (drop n (characters xs)) =
    sym (characters_joined xs) ∙ ap (joined (λ (g : Glyph). g.bytes)) (sym (take-append-drop n (characters xs))) ∙ joined_append (λ (g : Glyph). g.bytes) a (drop n (characters xs)) in
    sym (ap (take (extent a)) e ∙ rw (← bytes_extent a) (take-append_seam (joined (λ (g : Glyph). g.bytes) a) (joined (λ (g : Glyph). g.bytes) (drop n (characters xs)))))

-- ---- the first row

module _ (tab columns : ℕ) where
  staying_front : (column : ℕ) (gs : List Glyph) → staying_on tab columns column gs ≡ take (length (staying_on tab columns column gs)) gs
  unfolding staying_on
  staying_front column [] = refl
  staying_front column (g ∷ gs) = go (stays tab columns column g) refl (staying_front (column_behind tab column g) gs)
    where
      go : (t : Bool) → stays tab columns column g ≡ t
          → staying_on tab columns (column_behind tab column g) gs ≡ take (length (staying_on tab columns (column_behind tab column g) gs)) gs
          → staying_on tab columns column (g ∷ gs) ≡ take (length (staying_on tab columns column (g ∷ gs))) (g ∷ gs)
      go true e i = rw (staying_more tab columns column g gs e) (ap (λ (l : List Glyph). g ∷ l) i)
      go false e i = rw (staying_end tab columns column g gs e)

  pub first_front : (gs : List Glyph) → first_row tab columns gs ≡ take (length (first_row tab columns gs)) gs
  unfolding first_row
  first_front [] = refl
  first_front (g ∷ gs) = ap (λ (l : List Glyph). g ∷ l) (staying_front (column_behind tab 0 g) gs)

  pub first_some : (gs : List Glyph) → 0 < length gs → 0 < length (first_row tab columns gs)
  unfolding first_row
  first_some [] h = h
  first_some (g ∷ gs) h = omega arith

  pub rows_nil : rows_of tab columns [] ≡ []
  unfolding rows_of
  rows_nil = each_nil _ _

  pub rows_step : (gs : List Glyph) → 0 < length gs → rows_of tab columns gs ≡ first_row tab columns gs ∷ rows_of tab columns (drop (length (first_row tab columns gs)) gs)
  unfolding rows_of
  rows_step gs h =
      let e : suc (length (first_row tab columns gs) - 1) ≡ length (first_row tab columns gs) = omega (arith, first_some gs h) in
      each_step (λ (l : List Glyph). length (first_row tab columns l) - 1) (first_row tab columns) gs h ∙ rw e

  module _ (line : List ℕ) where
    abbrev rows_at : ℕ → List (List Glyph)
    rows_at at = rows_of tab columns (characters (drop at line))

    -- a row at a place, and those after it
    record RowHere (at end : ℕ) : Type 0 where
      row : List Glyph
      first : rows_at at ≡ row ∷ rows_at end
      bytes : row_bytes row ≡ slice at end line

    row_here : (at end : ℕ) → at < length line → end ≡ row_end tab columns line at → RowHere at end
    unfolding row_end
    row_here at end h e =
        let gs = characters (drop at line) in
        let r = first_row tab columns gs in
        let n = length r in
        let some : 0 < length gs = rw (characters_first line at h) (omega arith) in
        let f : take n gs ≡ r = sym (first_front gs) in
        record {
          row = r;
          first = rows_step gs some ∙ rw (cut_rest n (drop at line), f, drop-drop (extent r) at line, ← e);
          bytes = sym (ap row_bytes f) ∙ cut_front n (drop at line) ∙ rw (f, e) (sym (slice_is at (extent r) line));
        }

    rows_past : (at : ℕ) → length line ≤ at → rows_at at ≡ []
    rows_past at h = rw (characters_past line at h) rows_nil

    -- ---- what is left to be written at a place

    turn_first : (end : ℕ) → end ≤ length line → end ≡ row_end tab columns line 0 → in_rows (rows_at 0) ≡ slice 0 end line ++ joined fed (rows_at end)
    unfolding in_rows
    turn_first end h e = pick (length line) refl
      where
        pick : (n : ℕ) → length line ≡ n → in_rows (rows_at 0) ≡ slice 0 end line ++ joined fed (rows_at end)
        pick zero z =
            let f : end ≡ 0 = omega arith in
            rw (f, rows_past 0 (omega arith), joined_nil fed)
        pick (suc n) z =
            let r = row_here 0 end (omega arith) e in
            rw r.first (ap (λ (l : List ℕ). l ++ joined fed (rows_at end)) r.bytes)

    turn_more : (at end : ℕ) → at < length line → end ≡ row_end tab columns line at → joined fed (rows_at at) ≡ (feed ∷ slice at end line) ++ joined fed (rows_at end)
    unfolding fed
    turn_more at end h e =
        let r = row_here at end h e in
        rw (r.first, joined_cons fed r.row (rows_at end)) (ap (λ (l : List ℕ). feed ∷ l ++ joined fed (rows_at end)) r.bytes)

    turn_none : (at : ℕ) → length line ≤ at → joined fed (rows_at at) ≡ []
    turn_none at h = rw (rows_past at h) (joined_nil fed)

    -- from the end of the first row on
    pub record Turning (at₀ k₀ : ℕ) (out₀ : List ℕ) (at k : ℕ) (out : List ℕ) : Type 0 where
      pub within : at ≤ length line
      pub bounded : k ≤ 2 * at
      pub left : Left out₀ k₀ (joined fed (rows_at at₀)) out k (joined fed (rows_at at))

    module _ {at₀ k₀ : ℕ} {out₀ out : List ℕ} {at k : ℕ} (t : Turning at₀ k₀ out₀ at k out) where
      pub turning_row : {out' : List ℕ} {end k' : ℕ} → at < length line → end ≡ row_end tab columns line at → at < end → end ≤ length line
          → Wrote out k (feed ∷ slice at end line) out' k' → Turning at₀ k₀ out₀ end k' out'
      turning_row {out'} {end} {k'} h e on within w =
          record {
            within = within;
            bounded = omega (arith, w.count, t.bounded, length-slice at end line within);
            left = left_then (rw (turn_more at end h e) at t.left) w;
          }

      pub turning_last : {o : List ℕ} → at₀ ≡ row_end tab columns line 0 → at₀ ≤ length line → Wrote o 0 (slice 0 at₀ line) out₀ k₀ → length line ≤ at
          → Wrote o 0 (in_rows (rows_of tab columns (characters line))) out k × (k ≤ 2 * length line)
      turning_last e within first h =
          (rw (turn_first at₀ within e) (wrote_then first (left_last (rw (turn_none at h) at t.left) (wrote_nil out k))), omega (arith, t.bounded, t.within))
