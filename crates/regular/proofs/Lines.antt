-- By places: a stretch that begins a line of output, cut at the last space up to the width, or at its first word; and one that stays whole.
use mathlib.Core.Path.{◌≡◌, refl, ap, ◌∙◌}
use mathlib.Core.Bool.{Bool, true, false}
use mathlib.Core.Logic.{◌⊎◌, inl, inr, ⊎_elim}
use mathlib.Core.List.{List, [], ◌++◌}
use Prim.Native.Nat.{ℕ, ◌+◌, ◌-◌, ◌≤◌, ◌<◌}
use native.Mathlib.Omega.{arith}
use lib.Dec.{ltb}
use lib.ListN.{length, replicate}
use borrow.Author.Tests.{ltb-true, ltb-false}
use lib.Seq.{slice, length-slice, slice_empty}
use Rattle.lists.specs.Runs.{while, behind, every}
use Rattle.lists.proofs.Parts.{while_behind, every_while, every_nil}
use Rattle.lists.proofs.Joins.{slice_join}
use Rattle.options.specs.Opts.{Opts}
use Rattle.records.specs.Word.{Word}
use Rattle.spacing.specs.declared.Setting.{Setting}
use Rattle.output.specs.Emission.{line_feed}
use Rattle.regular.specs.declared.Cut.{Cut}
use Rattle.regular.specs.Cited.Regular.{is_space, not_space, columns, stretch_words, lastly, opens, fresh_punct, added, quick_rest, quick_fresh}
use Rattle.regular.specs.Cited.Places.{NoSpace, Inked, Even, columns_in, Reaches, CutAt}
use Rattle.regular.proofs.Even.{EvenGap}
use Rattle.regular.proofs.EvenParts.{front_even, gap_even}
use Rattle.regular.proofs.Columns.{columns_some}
use Rattle.regular.proofs.Room.{room_fits, room_short, room_passed}
use Rattle.regular.proofs.Fresh.{no_words, fresh_same, fresh_stays, breaks, next_stays_on, next_breaks_off}
use Rattle.regular.proofs.Parts.{behind_opens, part_spaces, part_ink, part_opens, part_closed, part_first_space, part_least}

module _ (s : List ℕ) (o : Opts) (g : Setting) (indent : List ℕ) (same : o.uniform ≡ g.uniform) (more : List Word) where
  -- the words of the notes between two places, the words of later lines after them
  abbrev from : Bool → Bool → ℕ → ℕ → List Word
  from new_line previous p e = stretch_words o new_line previous (slice p e s) ++ more

  -- a word begins at next: its first word, and what is after that
  module _ (next e : ℕ) (inked : Inked s next e) where
    abbrev xs : List ℕ
    xs = slice next e s

    ink_some : 0 < length (while not_space xs)
    ink_some = part_least s next e inked.within 1 (let h = inked.on in omega arith) (λ i a b. let z : i ≡ next = omega arith in rw z inked.first)

    -- on a fresh line its marks do not matter
    pub fresh_marks : (counts new_line previous : Bool) (column : ℕ) → quick_fresh g indent counts column (from new_line previous next e) ≡ quick_fresh g indent counts column (from false false next e)
    fresh_marks counts new_line previous column =
        rw (while_behind not_space xs) at (fresh_same o g indent same more counts new_line previous column [] (while not_space xs) (behind not_space xs) (every_nil is_space) (every_while not_space xs) ink_some (behind_opens xs))

    -- after a gap it breaks, where it does not fit
    break_at : (column : ℕ) (punct previous : Bool) (gap : List ℕ) → every is_space gap ≡ true → (g.uniform ≡ true → EvenGap previous gap) → g.width < column + length gap + columns (while not_space xs)
        → quick_rest g indent column punct (stretch_words o false previous (gap ++ xs) ++ more) ≡ line_feed ++ (indent ++ quick_fresh g indent true g.indent (from false false next e))
    break_at column punct previous gap spaced even wide =
        rw (while_behind not_space xs) at (breaks o g indent same more column punct previous gap (while not_space xs) (behind not_space xs) spaced (every_while not_space xs) ink_some (behind_opens xs) even wide)

  -- ---- a line of output

  module _ (p e : ℕ) (inked : Inked s p e) (even : Even g.uniform s p e) (counts new_line previous : Bool) (column : ℕ) where
    -- the words up to a place, which is their end, begin it
    fresh_front : (end : ℕ) → p < end → end ≤ e → NoSpace s (end - 1) → opens (slice end e s) ≡ true → (column + columns_in s p end ≤ g.width) ⊎ ((i : ℕ) → p ≤ i → i < end → NoSpace s i)
        → quick_fresh g indent counts column (from new_line previous p e)
        ≡ slice p end s ++ quick_rest g indent (column + columns_in s p end) (fresh_punct counts (slice p end s)) (from false (lastly false (slice p end s)) end e)
    fresh_front end some on last next fits =
        let w = inked.within in
        let f : (column + columns (slice p end s) ≤ g.width) ⊎ (every not_space (slice p end s) ≡ true) =
        ⊎_elim (λ (h : column + columns_in s p end ≤ g.width). inl h) (λ (h : (i : ℕ) → p ≤ i → i < end → NoSpace s i). inr (part_ink s p end (omega arith) h)) fits in
        rw (slice_join p end e s (omega arith) on w) at
        (fresh_stays o g indent same more counts new_line previous column (slice p end s) (slice end e s) (part_opens s p end (omega arith) some inked.first) (part_closed s p end (omega arith) some last) next f (λ u. front_even s p end e (omega arith) on w (even u)))

    -- as many words as end by the width, or one; the next one breaks
    pub fresh_cut : (room at : ℕ) (r : Cut) → room ≡ g.width - column → Reaches s p e room at → CutAt s p e at r
        → quick_fresh g indent counts column (from new_line previous p e)
        ≡ slice p r.end s ++ (line_feed ++ (indent ++ quick_fresh g indent true g.indent (from false false r.next e)))
    fresh_cut room at r is reaches cut =
        let w = inked.within in
        let some = cut.on in
        let gap = cut.gap in
        let on = cut.rest.on in
        let n = length-slice r.end r.next s (omega arith) in
        let long = room_passed s p e room at w reaches r cut in
        let least = columns_some s p r.end e some (omega arith) w inked.letters in
        let fits : (column + columns_in s p r.end ≤ g.width) ⊎ ((i : ℕ) → p ≤ i → i < r.end → NoSpace s i) =
        ⊎_elim (λ (h : r.end ≤ at). inl (let m = room_fits s p e room at w reaches r.end (omega arith) h in omega arith)) (λ (h : (i : ℕ) → p ≤ i → i < r.end → NoSpace s i). inr h) cut.fits in
        fresh_front r.end some (omega arith) cut.ends (part_first_space s r.end e w (omega arith) (cut.spaces r.end (omega arith) gap)) fits
        ∙ ap (λ (l : List ℕ). slice p r.end s ++ l)
        (rw (slice_join r.end r.next e s (omega arith) (omega arith) w) at
        (break_at r.next e cut.rest (column + columns_in s p r.end) (fresh_punct counts (slice p r.end s)) (lastly false (slice p r.end s)) (slice r.end r.next s)
        (part_spaces s r.end r.next (omega arith) cut.spaces) (λ u. gap_even s p e at r w (even u) cut) (omega arith)))

    -- all that is left of the stretch
    pub fresh_all : (column + columns_in s p e ≤ g.width) ⊎ ((i : ℕ) → p ≤ i → i < e → NoSpace s i)
        → quick_fresh g indent counts column (from new_line previous p e) ≡ slice p e s ++ quick_rest g indent (column + columns_in s p e) (fresh_punct counts (slice p e s)) more
    unfolding opens
    fresh_all fits =
        rw (slice_empty e s, no_words) at (fresh_front e inked.on (omega arith) inked.last (rw (slice_empty e s)) fits)

  -- ---- the next line's stretch, after a line of output that has begun

  module _ (p e : ℕ) (inked : Inked s p e) (even : Even g.uniform s p e) (column : ℕ) (punct : Bool) where
    -- where it does not even have a first word's room
    pub next_off : (room at : ℕ) → room ≡ g.width - (column + added punct) → Reaches s p e room at → ((i : ℕ) → p < i → i ≤ at → NoSpace s i)
        → quick_rest g indent column punct (from true false p e) ≡ line_feed ++ (indent ++ quick_fresh g indent true g.indent (from false false p e))
    next_off room at is reaches none =
        let long = room_short s p e room at inked.within reaches (λ i a b. pick i a b (ltb p i) refl) in
        rw (while_behind not_space (slice p e s)) at
        (next_breaks_off o g indent same more column punct (while not_space (slice p e s)) (behind not_space (slice p e s)) (every_while not_space (slice p e s)) (ink_some p e inked) (behind_opens (slice p e s)) (omega arith))
      where
        pick : (i : ℕ) → p ≤ i → i ≤ at → (t : Bool) → ltb p i ≡ t → NoSpace s i
        pick i a b true q = none i (ltb-true p i q) b
        pick i a b false q = let z : i ≡ p = omega (arith, ltb-false p i q) in rw z inked.first

    next_front : (end : ℕ) → p < end → end ≤ e → NoSpace s (end - 1) → opens (slice end e s) ≡ true → column + added punct + columns_in s p end ≤ g.width
        → quick_rest g indent column punct (from true false p e)
        ≡ replicate (added punct) 32 ++ (slice p end s ++ quick_rest g indent (column + added punct + columns_in s p end) (lastly false (slice p end s)) (from false (lastly false (slice p end s)) end e))
    next_front end some on last next fits =
        let w = inked.within in
        rw (slice_join p end e s (omega arith) on w) at
        (next_stays_on o g indent same more column punct (slice p end s) (slice end e s) (part_opens s p end (omega arith) some inked.first) (part_closed s p end (omega arith) some last) next fits (λ u. front_even s p end e (omega arith) on w (even u)))

    -- as many words as end by the width; the next one breaks
    pub next_cut : (room at : ℕ) (r : Cut) → room ≡ g.width - (column + added punct) → Reaches s p e room at → CutAt s p e at r → r.end ≤ at
        → quick_rest g indent column punct (from true false p e)
        ≡ replicate (added punct) 32 ++ (slice p r.end s ++ (line_feed ++ (indent ++ quick_fresh g indent true g.indent (from false false r.next e))))
    next_cut room at r is reaches cut by =
        let w = inked.within in
        let some = cut.on in
        let gap = cut.gap in
        let on = cut.rest.on in
        let n = length-slice r.end r.next s (omega arith) in
        let long = room_passed s p e room at w reaches r cut in
        let least = columns_some s p r.end e some (omega arith) w inked.letters in
        let fits = room_fits s p e room at w reaches r.end (omega arith) by in
        next_front r.end some (omega arith) cut.ends (part_first_space s r.end e w (omega arith) (cut.spaces r.end (omega arith) gap)) (omega arith)
        ∙ ap (λ (l : List ℕ). replicate (added punct) 32 ++ (slice p r.end s ++ l))
        (rw (slice_join r.end r.next e s (omega arith) (omega arith) w) at
        (break_at r.next e cut.rest (column + added punct + columns_in s p r.end) (lastly false (slice p r.end s)) (lastly false (slice p r.end s)) (slice r.end r.next s)
        (part_spaces s r.end r.next (omega arith) cut.spaces) (λ u. gap_even s p e at r w (even u) cut) (omega arith)))

    pub next_all : column + added punct + columns_in s p e ≤ g.width
        → quick_rest g indent column punct (from true false p e) ≡ replicate (added punct) 32 ++ (slice p e s ++ quick_rest g indent (column + added punct + columns_in s p e) (lastly false (slice p e s)) more)
    unfolding opens
    next_all fits = rw (slice_empty e s, no_words) at (next_front e inked.on (omega arith) inked.last (rw (slice_empty e s)) fits)
