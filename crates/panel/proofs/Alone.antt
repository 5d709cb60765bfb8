-- RULES 15: a row depends on its own line of the digest and the tab width alone.
use mathlib.Core.Path.{◌≡◌, refl, sym, ap, ◌∙◌}
use mathlib.Core.List.{List, [], ◌∷◌}
use Prim.Native.Nat.{ℕ, zero, suc, ◌+◌, ◌-◌, ◌*◌, ◌≤◌, ◌<◌}
use native.Mathlib.Omega.{arith}
use lib.ListN.{length, get_or, take, drop, replicate, length-append, length-drop, length-replicate}
use lib.Seq.{take_at, drop-append-add}
use Rattle.lists.specs.Runs.{joined}
use Rattle.lists.proofs.Parts.{joined_cons}
use Rattle.lines.specs.Lines.{Line, lines_of}
use Rattle.panel.specs.Panel.{row_cells, stop_width, newest, texts_of, shown, panel_of}
use Rattle.panel.proofs.Turns.{row_length}

-- the cells of row i
abbrev pub cells_of : ℕ → List ℕ → List ℕ
cells_of i cells = take 80 (drop (i * 80) cells)

row_of_joined : (f : List ℕ → List ℕ) → ((x : List ℕ) → length (f x) ≡ 80) → (xs : List (List ℕ)) (i : ℕ) → i < length xs → cells_of i (joined f xs) ≡ f (get_or xs i [])
row_of_joined f size [] i h = absurd (omega arith)
row_of_joined f size (x ∷ xs) zero h = rw (joined_cons f x xs) (take_at (f x) (joined f xs) 80 (size x))
row_of_joined f size (x ∷ xs) (suc i) h =
    let e : suc i * 80 ≡ length (f x) + i * 80 = omega (arith, size x) in
    rw (joined_cons f x xs, e, drop-append-add (f x) (joined f xs) (i * 80)) (row_of_joined f size xs i (omega arith))

texts_length : (ls : List Line) → length (texts_of ls) ≡ length ls
unfolding texts_of
texts_length [] = refl
texts_length (l ∷ ls) = ap suc (texts_length ls)

newest_length : (ls : List Line) → length (newest ls) ≤ 24
unfolding newest
newest_length ls = rw (length-drop (length ls - 24) ls) (omega arith)

-- the panel has 24 rows
pub shown_length : (digest : List ℕ) → length (shown digest) ≡ 24
unfolding shown
shown_length digest =
    let ls = newest (lines_of digest) in
    let n = newest_length (lines_of digest) in
    length-append (replicate (24 - length ls) []) (texts_of ls) ∙ rw (length-replicate, texts_length ls) (omega arith)

pub a_row_is_its_lines : (tab : ℕ) (digest : List ℕ) (i : ℕ) → i < 24 → cells_of i (panel_of tab digest) ≡ row_cells (stop_width tab) (get_or (shown digest) i [])
unfolding panel_of
a_row_is_its_lines tab digest i h =
    row_of_joined (row_cells (stop_width tab)) (row_length (stop_width tab)) (shown digest) i (rw (shown_length digest) h)

pub the_cells_of_a_row_depend_on_its_own_line_and_the_tab_width_only : (tab : ℕ) (one other : List ℕ) (i : ℕ) → i < 24
    → get_or (shown one) i [] ≡ get_or (shown other) i [] → cells_of i (panel_of tab one) ≡ cells_of i (panel_of tab other)
the_cells_of_a_row_depend_on_its_own_line_and_the_tab_width_only tab one other i h e =
    a_row_is_its_lines tab one i h ∙ ap (row_cells (stop_width tab)) e ∙ sym (a_row_is_its_lines tab other i h)
