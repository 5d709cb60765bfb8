-- Drawing the panel, row by row: the rows drawn and those of the lines left are the panel's, and what is left of the cells is blank.
use Rattle.std.proofs.Common.{Ok, Err}
use mathlib.Core.Path.{◌≡◌, refl, sym, ap, ◌∙◌}
use mathlib.Core.List.{List, [], ◌∷◌, ◌++◌, append_assoc, append-nil}
use Prim.Native.Nat.{ℕ, zero, suc, ◌+◌, ◌-◌, ◌*◌, ◌≤◌, ◌<◌, max}
use native.Mathlib.Omega.{arith}
use lib.ListN.{length, take, drop, replicate, length-append, length-drop, length-replicate, replicate-append-replicate}
use lib.Seq.{take_at, drop_at, drop-drop, length-take-le, take_all}
use borrow.Author.Tests.{ne_eqb, le-leb, lt-leb}
use Rattle.lists.specs.Runs.{joined}
use Rattle.lists.proofs.Parts.{joined_nil, joined_cons, joined_append}
use Rattle.lists.proofs.Slices.{slice_is}
use Rattle.lines.specs.Lines.{first_line, lines_of}
use Rattle.lines.proofs.Lines.{LineHere, lines_past}
use Rattle.lines.specs.declared.Extent.{Extent}
use Rattle.panel.specs.Panel.{blank, blank_row, draw, finished, row_cells, stop_width, newest, texts_of, shown, panel_of, panel_answer, cells_after}
use Rattle.panel.specs.Cited.Places.{Newest}
use Rattle.panel.specs.declared.Tail.{Tail}
use Rattle.panel.proofs.Turns.{signs_nil, row_length}

drop_replicate : {A : Type 0} (k n : ℕ) (a : A) → drop k (replicate n a) ≡ replicate (n - k) a
drop_replicate zero n a = let e : n - 0 ≡ n = omega arith in rw e
drop_replicate (suc k) zero a = let e : 0 - suc k ≡ 0 = omega arith in rw e
drop_replicate (suc k) (suc n) a = let e : suc n - suc k ≡ n - k = omega arith in rw e (drop_replicate k n a)

take_replicate : {A : Type 0} (k n : ℕ) (a : A) → k ≤ n → take k (replicate n a) ≡ replicate k a
take_replicate zero n a h = refl
take_replicate (suc k) zero a h = absurd (omega arith)
take_replicate {A} (suc k) (suc n) a h = ap (λ (l : List A). a ∷ l) (take_replicate k n a (omega arith))

-- ---- blank rows

pub blank_row_law : (tab : ℕ) → row_cells tab [] ≡ replicate 80 blank
unfolding row_cells draw finished blank_row
blank_row_law tab = rw signs_nil

blank_rows : (tab r : ℕ) → joined (row_cells tab) (replicate r []) ≡ replicate (r * 80) blank
blank_rows tab zero = joined_nil (row_cells tab)
blank_rows tab (suc r) =
    let e : suc r * 80 ≡ 80 + r * 80 = omega arith in
    rw (joined_cons (row_cells tab) [] (replicate r []), blank_row_law tab, blank_rows tab r, e) (replicate-append-replicate 80 (r * 80) blank)

-- ---- the turns

pub record Showing (digest : List ℕ) (tab : ℕ) (cells : List ℕ) (at from : ℕ) : Type 0 where
  pub within : at ≤ length digest
  pub size : length cells ≡ 1920
  pub room : from + length (lines_of (drop at digest)) * 80 ≡ 1920
  pub blanks : drop from cells ≡ replicate (1920 - from) blank
  pub left : take from cells ++ joined (row_cells tab) (texts_of (lines_of (drop at digest))) ≡ joined (row_cells tab) (shown digest)

pub showing_first : (digest : List ℕ) (tab : ℕ) (cells : List ℕ) (t : Tail) → cells ≡ replicate 1920 blank → Newest digest t
    → Showing digest tab cells t.at ((24 - t.count) * 80)
unfolding shown
showing_first digest tab cells t e n =
    let c = n.count in
    let f = n.few in
    let r = 24 - t.count in
    let q : 24 - length (newest (lines_of digest)) ≡ r = rw (← n.lines, ← n.count) in
    record {
      within = n.within;
      size = rw e (length-replicate 1920 blank);
      room = omega arith;
      blanks = rw (e, drop_replicate (r * 80) 1920 blank);
      left = rw (e, take_replicate (r * 80) 1920 blank (omega arith), n.lines, q, joined_append (row_cells tab) (replicate r []) (texts_of (newest (lines_of digest))), blank_rows tab r);
    }

pub showing_last : (digest : List ℕ) (tab : ℕ) (cells : List ℕ) (at from : ℕ) → Showing digest tab cells at from → length digest ≤ at → cells ≡ joined (row_cells tab) (shown digest)
unfolding texts_of
showing_last digest tab cells at from s h =
    let p = lines_past digest at h in
    let z : from ≡ 1920 = omega (arith, s.room, ap length p) in
    sym (take_all from cells (omega (arith, s.size))) ∙ sym (append-nil (take from cells)) ∙ rw (p, joined_nil (row_cells tab)) at s.left

module _ (digest : List ℕ) (tab : ℕ) (cells : List ℕ) (at from : ℕ) (e : Extent) (s : Showing digest tab cells at from) (here : LineHere digest at e) where
  pub row_fits : from + 80 ≤ 1920
  row_fits = omega (arith, s.room, ap length here.first)

  eighty_on : from + 80 - from ≡ 80
  eighty_on = omega arith

  pub row_blank : take (from + 80 - from) (drop from cells) ≡ replicate 80 blank
  row_blank = let f = row_fits in rw (eighty_on, s.blanks) (take_replicate 80 (1920 - from) blank (omega arith))

  text_part : (first_line (drop at digest)).text ≡ take (at + e.text - at) (drop at digest)
  text_part = let n : at + e.text - at ≡ e.text = omega arith in rw n (here.text ∙ slice_is at e.text digest)

  pub showing_next : (row : List ℕ) → row ≡ row_cells tab (take (at + e.text - at) (drop at digest))
      → Showing digest tab (take from cells ++ (row ++ drop (from + 80 - from) (drop from cells))) (at + e.whole) (from + 80)
  unfolding texts_of
  showing_next row r =
      let f = row_fits in
      let z = s.size in
      let n : length row ≡ 80 = ap length r ∙ row_length tab (take (at + e.text - at) (drop at digest)) in
      let t : length (take from cells) ≡ from = length-take-le from cells (omega arith) in
      let b : 1920 - from - 80 ≡ 1920 - (from + 80) = omega arith in
      let p : length (take from cells ++ row) ≡ from + 80 = length-append (take from cells) row ∙ omega arith in
      let q : take from cells ++ (row ++ drop (from + 80 - from) (drop from cells)) ≡ (take from cells ++ row) ++ drop (from + 80) cells =
      rw (eighty_on, drop-drop 80 from cells) (sym (append_assoc (take from cells) row (drop (from + 80) cells))) in
      record {
        within = here.within;
        size = rw q (length-append (take from cells ++ row) (drop (from + 80) cells) ∙ omega (arith, length-drop (from + 80) cells));
        room = omega (arith, s.room, ap length here.first);
        blanks =
            rw (q, drop_at (take from cells ++ row) (drop (from + 80) cells) (from + 80) p, ← drop-drop 80 from cells, s.blanks, drop_replicate 80 (1920 - from) blank, b);
        left =
            rw (q, take_at (take from cells ++ row) (drop (from + 80) cells) (from + 80) p, append_assoc, r, ← text_part)
            (rw (here.first, joined_cons) at s.left);
      }

-- ---- the answers

pub stop_width_is : (tab : ℕ) → max tab 1 ≡ stop_width tab
unfolding stop_width
stop_width_is zero = omega arith
stop_width_is (suc n) = rw (ne_eqb (suc n) 0 (λ e. omega arith)) (omega arith)

pub stop_bounds : (tab w : ℕ) → tab ≤ 100 → w ≡ stop_width tab → (1 ≤ w) × (w ≤ 100)
stop_bounds tab w h e = let m = stop_width_is tab in (omega arith, omega arith)

pub refused : (tab : ℕ) (digest : List ℕ) → 100 < tab → ((Err (record {})) ≡ panel_answer tab) × (replicate 1920 blank ≡ cells_after tab digest)
unfolding panel_answer cells_after
refused tab digest h = rw (lt-leb tab 100 h) (refl, refl)

pub done : (tab w : ℕ) (digest cells : List ℕ) → tab ≤ 100 → w ≡ stop_width tab → cells ≡ joined (row_cells w) (shown digest) → ((Ok tt) ≡ panel_answer tab) × (cells ≡ cells_after tab digest)
unfolding panel_answer cells_after panel_of
done tab w digest cells h e r = rw (le-leb tab 100 h, ← e) (refl, r)
