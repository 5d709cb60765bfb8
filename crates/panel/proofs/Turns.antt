-- Drawing a row, turn by turn: what is left to draw gives the row that the whole line gives.
use Rattle.std.proofs.Common.{Some, None}
use mathlib.Core.Path.{◌≡◌, refl, ap, ◌∙◌}
use mathlib.Core.Bool.{Bool, true, false, cond}
use mathlib.Core.List.{List, [], ◌∷◌}
use Prim.Native.Nat.{ℕ, ◌+◌, ◌-◌, ◌≤◌, ◌<◌}
use native.Mathlib.Omega.{arith}
use lib.Dec.{leb, eqb}
use lib.ListN.{length, get_or, drop, set, replicate, length-drop, length-set, length-replicate}
use lib.Seq.{sets, length-sets}
use Rattle.lists.proofs.Walk.{each_nil, each_at}
use Rattle.lists.proofs.Views.{drop_none}
use Rattle.text.specs.Rfc3629.{Front, front, nothing, decode}
use Rattle.text.proofs.Decoder.{sound}
use Rattle.panel.specs.Panel.{PanelRow, blank, shown_as, size, signs, blank_row, taken, drawn, draw, marked, finished, row_cells}
use Rattle.panel.specs.Cited.Places.{seen_at, row_at, step_of}
use Rattle.panel.specs.declared.Seen.{Seen}
use Rattle.panel.specs.declared.Sign.{Sign}
use Rattle.panel.specs.declared.Sign.TheVariants.{Tab, Dropped, One, Two}
use Rattle.panel.proofs.Rows.{on_told, step_on, step_over}

-- ---- the signs of a line

pub record Sized (xs : List ℕ) : Type 0 where
  pub some : 1 ≤ size (decode xs)
  pub within : size (decode xs) ≤ length xs

pub sized : (xs : List ℕ) → 0 < length xs → Sized xs
sized xs h = pick (decode xs) refl
  where
    pick : (f : Front) → decode xs ≡ f → Sized xs
    pick nothing e = record { some = rw e (omega arith); within = rw e h }
    pick (front c n) e = let d = sound xs c n e in record { some = rw e d.some; within = rw e d.within }

pub signs_nil : signs [] ≡ []
unfolding signs
signs_nil = each_nil (λ xs. size (decode xs) - 1) (λ xs. shown_as (decode xs))

pub signs_past : (line : List ℕ) (at : ℕ) → length line ≤ at → signs (drop at line) ≡ []
signs_past line at h = rw (drop_none 0 line at h) signs_nil

-- a sign at a place, and the next after it
pub record SignHere (line : List ℕ) (at : ℕ) (seen : Seen) : Type 0 where
  pub first : signs (drop at line) ≡ seen.sign ∷ signs (drop seen.next line)
  pub on : at < seen.next
  pub within : seen.next ≤ length line

pub sign_here : (line : List ℕ) (at : ℕ) (seen : Seen) → at < length line → seen ≡ seen_at at line → SignHere line at seen
unfolding signs
sign_here line at seen h e =
    let d = length-drop at line in
    let z = sized (drop at line) (omega arith) in
    let some = z.some in
    let within = z.within in
    rw e
    (record {
      first = each_at (λ xs. size (decode xs) - 1) (λ xs. shown_as (decode xs)) line at (size (decode (drop at line))) h (omega arith);
      on = omega arith;
      within = omega arith;
    })

-- ---- the cells of a row

taken_length : (cs : List ℕ) (r : PanelRow) → length (taken cs r).cells ≡ length r.cells
unfolding taken
taken_length cs r = pick (leb (r.column + length cs) 80)
  where
    pick : (t : Bool) → length (cond t (sets r.cells r.column cs) r.cells) ≡ length r.cells
    pick true = length-sets r.cells r.column cs
    pick false = refl

pub drawn_length : (tab : ℕ) (r : PanelRow) (s : Sign) → length (drawn tab r s).cells ≡ length r.cells
unfolding drawn
drawn_length tab r Tab = refl
drawn_length tab r Dropped = refl
drawn_length tab r (One c) = taken_length (c ∷ []) r
drawn_length tab r (Two c) = taken_length (c ∷ 0 ∷ []) r

pub marked_length : (cells : List ℕ) → length (marked cells) ≡ length cells
unfolding marked
marked_length cells = length-set (cond (eqb (get_or cells 79 0) 0) (set cells 78 blank) cells) 79 0x2B ∙ same (eqb (get_or cells 79 0) 0)
  where
    same : (t : Bool) → length (cond t (set cells 78 blank) cells) ≡ length cells
    same true = length-set cells 78 blank
    same false = refl

pub finished_length : (r : PanelRow) → length (finished r) ≡ length r.cells
unfolding finished
finished_length r = pick r.over
  where
    pick : (t : Bool) → length (cond t (marked r.cells) r.cells) ≡ length r.cells
    pick true = marked_length r.cells
    pick false = refl

draw_length : (tab : ℕ) (r : PanelRow) (ss : List Sign) → length (draw tab r ss).cells ≡ length r.cells
unfolding draw
draw_length tab r [] = refl
draw_length tab r (s ∷ ss) = draw_length tab (drawn tab r s) ss ∙ drawn_length tab r s

-- every row has 80 cells
pub row_length : (tab : ℕ) (line : List ℕ) → length (row_cells tab line) ≡ 80
unfolding row_cells blank_row
row_length tab line = finished_length (draw tab blank_row (signs line)) ∙ draw_length tab blank_row (signs line) ∙ length-replicate 80 blank

-- ---- the turns

pub record Drawing (line : List ℕ) (tab : ℕ) (row : List ℕ) (at column : ℕ) : Type 0 where
  pub within : at ≤ length line
  pub few : column ≤ 80
  pub size : length row ≡ 80
  pub left : finished (draw tab (row_at column row) (signs (drop at line))) ≡ row_cells tab line

pub drawing_first : (line : List ℕ) (tab : ℕ) (row : List ℕ) → row ≡ replicate 80 blank → Drawing line tab row 0 0
unfolding row_cells blank_row
drawing_first line tab row e =
    record { within = omega arith; few = omega arith; size = rw e (length-replicate 80 blank); left = rw e }

pub drawing_last : (line : List ℕ) (tab : ℕ) (row : List ℕ) (at column : ℕ) → Drawing line tab row at column → length line ≤ at → row ≡ row_cells tab line
unfolding finished draw
drawing_last line tab row at column d h = rw (signs_past line at h) at d.left

module _ (line : List ℕ) (tab : ℕ) (row : List ℕ) (at column : ℕ) (some : 1 ≤ tab) (d : Drawing line tab row at column) (seen : Seen) (here : SignHere line at seen)
    (after : List ℕ) (stored : after ≡ (drawn tab (row_at column row) seen.sign).cells) where
  pub after_size : length after ≡ 80
  after_size = ap length stored ∙ drawn_length tab (row_at column row) seen.sign ∙ d.size

  pub drawing_next : (k : ℕ) → Some k ≡ step_of (drawn tab (row_at column row) seen.sign) → Drawing line tab after seen.next k
  drawing_next k e =
      let o = on_told (drawn tab (row_at column row) seen.sign) k e in
      let m = o.1 in
      record {
        within = here.within;
        few = omega arith;
        size = after_size;
        left = rw stored (step_on tab some column row seen.sign (signs (drop seen.next line)) k e ∙ rw here.first at d.left);
      }

  pub drawing_over : None ≡ step_of (drawn tab (row_at column row) seen.sign) → marked after ≡ row_cells tab line
  drawing_over e = rw stored (step_over tab some column row seen.sign (signs (drop seen.next line)) e ∙ rw here.first at d.left)
