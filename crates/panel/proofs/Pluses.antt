-- A row's law: no cell but the last is `+` unless the line has it.
use mathlib.Core.Path.{◌≡◌, refl}
use mathlib.Core.Bool.{Bool, true, false, cond}
use mathlib.Core.List.Memᴰ
use mathlib.Core.List.{List, [], ◌∷◌}
use Prim.Native.Nat.{ℕ, zero, suc, ◌+◌, ◌-◌, ◌<◌}
use native.Mathlib.Omega.{arith}
use lib.Dec.{leb, ltb, eqb}
use lib.ListN.{length, get_or, drop, set, replicate}
use lib.Seq.{sets, get_or-set_same, get_or-set_other, set_out}
use borrow.Author.Tests.{eqb-true, eqb-false, ltb-true, ltb-false}
use Rattle.lists.specs.Theorems.All.{All, ◌∈◌}
use Rattle.lists.proofs.Pieces.{each_induct}
use Rattle.widths.specs.Widths.{width_of}
use Rattle.text.specs.Rfc3629.{Front, front, nothing, encode, decode}
use Rattle.text.proofs.Decoder.{sound}
use Rattle.panel.specs.Panel.{PanelRow, blank, control, sign_of, shown_as, size, signs, blank_row, taken, drawn, draw, marked, finished, row_cells}
use Rattle.panel.specs.declared.Sign.{Sign}
use Rattle.panel.specs.declared.Sign.TheVariants.{Tab, Dropped, One, Two}

-- what a sign shows, and a row's cells
abbrev Shows : (ℕ → Type 0) → Sign → Type 0
Shows Q Tab = Unit {0}
Shows Q Dropped = Unit {0}
Shows Q (One c) = Q c
Shows Q (Two c) = Q c

abbrev Cells : (ℕ → Type 0) → List ℕ → Type 0
Cells Q cells = (i : ℕ) → Q (get_or cells i blank)

-- what holds of blanks, fillers and all that the signs show holds of every cell drawn
module _ (Q : ℕ → Type 0) (of-blank : Q blank) (of-filler : Q 0) where
  set_cells : (cells : List ℕ) (k v : ℕ) → Cells Q cells → Q v → Cells Q (set cells k v)
  set_cells cells k v all q i = go (eqb i k) refl (ltb k (length cells)) refl
    where
      go : (t : Bool) → eqb i k ≡ t → (u : Bool) → ltb k (length cells) ≡ u → Q (get_or (set cells k v) i blank)
      go false e u f = rw (get_or-set_other cells k i v blank (eqb-false i k e)) (all i)
      go true e true f = rw (eqb-true i k e, get_or-set_same cells k v blank (ltb-true k (length cells) f)) q
      go true e false f = rw (set_out cells k v (ltb-false k (length cells) f)) (all i)

  sets_cells : (vs cells : List ℕ) (k : ℕ) → Cells Q cells → All Q vs → Cells Q (sets cells k vs)
  sets_cells [] cells k all q = all
  sets_cells (v ∷ vs) cells k all q = sets_cells vs (set cells k v) (suc k) (set_cells cells k v all q.0) q.1

  taken_cells : (cs : List ℕ) (r : PanelRow) → All Q cs → Cells Q r.cells → Cells Q (taken cs r).cells
  unfolding taken
  taken_cells cs r q all = pick (leb (r.column + length cs) 80)
    where
      pick : (t : Bool) → Cells Q (cond t (sets r.cells r.column cs) r.cells)
      pick true = sets_cells cs r.cells r.column all q
      pick false = all

  drawn_cells : (tab : ℕ) (r : PanelRow) (s : Sign) → Shows Q s → Cells Q r.cells → Cells Q (drawn tab r s).cells
  unfolding drawn
  drawn_cells tab r Tab q all = all
  drawn_cells tab r Dropped q all = all
  drawn_cells tab r (One c) q all = taken_cells (c ∷ []) r (q, tt) all
  drawn_cells tab r (Two c) q all = taken_cells (c ∷ 0 ∷ []) r (q, (of-filler, tt)) all

  draw_cells : (tab : ℕ) (ss : List Sign) → All (Shows Q) ss → (r : PanelRow) → Cells Q r.cells → Cells Q (draw tab r ss).cells
  unfolding draw
  draw_cells tab [] q r all = all
  draw_cells tab (s ∷ ss) q r all = draw_cells tab ss q.1 (drawn tab r s) (drawn_cells tab r s q.0 all)

  blank_cells : (n i : ℕ) → Q (get_or (replicate n blank) i blank)
  blank_cells zero i = of-blank
  blank_cells (suc n) zero = of-blank
  blank_cells (suc n) (suc i) = blank_cells n i

  -- the last cell apart
  finished_cells : (r : PanelRow) → Cells Q r.cells → (i : ℕ) → i < 79 → Q (get_or (finished r) i blank)
  unfolding finished marked
  finished_cells r all i h = pick r.over (eqb (get_or r.cells 79 0) 0)
    where
      pick : (t u : Bool) → Q (get_or (cond t (set (cond u (set r.cells 78 blank) r.cells) 79 0x2B) r.cells) i blank)
      pick false u = all i
      pick true false = rw (get_or-set_other r.cells 79 i 0x2B blank (λ e. absurd (omega (arith, e)))) (all i)
      pick true true = rw (get_or-set_other (set r.cells 78 blank) 79 i 0x2B blank (λ e. absurd (omega (arith, e)))) (set_cells r.cells 78 blank all of-blank i)

  row_cells_law : (tab : ℕ) (line : List ℕ) → All (Shows Q) (signs line) → (i : ℕ) → i < 79 → Q (get_or (row_cells tab line) i blank)
  unfolding row_cells blank_row
  row_cells_law tab line q i h = finished_cells (draw tab blank_row (signs line)) (draw_cells tab (signs line) q blank_row (λ j. blank_cells 80 j)) i h

  sign_shows : (c : ℕ) → Q c → Shows Q (sign_of c)
  unfolding sign_of
  sign_shows c q = go (eqb c 9) (control c) (eqb (width_of c) 0) (eqb (width_of c) 2)
    where
      go : (a b d e : Bool) → Shows Q (cond a Tab (cond b (One blank) (cond d Dropped (cond e (Two c) (One c)))))
      go true b d e = tt
      go false true d e = of-blank
      go false false true e = tt
      go false false false true = q
      go false false false false = q

-- ---- a plus

dropped : (n : ℕ) (xs : List ℕ) → 43 ∈ drop n xs → 43 ∈ xs
dropped zero xs m = m
dropped (suc n) [] m = m
dropped (suc n) (x ∷ xs) m = Memᴰ.tail (dropped n xs m)

plus_first : (xs : List ℕ) (n : ℕ) → decode xs ≡ front 43 n → 43 ∈ xs
unfolding encode
plus_first xs n e = rw (sound xs 43 n e).stands.octets (Memᴰ.head refl)

module _ (G : Type 0) where
  abbrev Plus : ℕ → Type 0
  Plus c = c ≡ 43 → G

  shown_plus : (xs : List ℕ) → (43 ∈ xs → G) → (f : Front) → decode xs ≡ f → Shows Plus (shown_as f)
  shown_plus xs g nothing e = λ z. absurd (omega (arith, z))
  shown_plus xs g (front c n) e = sign_shows Plus (λ w. absurd (omega (arith, w))) (λ w. absurd (omega (arith, w))) c (λ z. g (plus_first xs n (rw z at e)))

  signs_plus : (line : List ℕ) → (43 ∈ line → G) → All (Shows Plus) (signs line)
  unfolding signs
  signs_plus line =
      each_induct (λ xs. size (decode xs) - 1) (λ xs. shown_as (decode xs))
      (λ xs ss. (43 ∈ xs → G) → All (Shows Plus) ss) (λ g. tt)
      (λ xs h i g. (shown_plus xs g (decode xs) refl, i (λ m. g (dropped (suc (size (decode xs) - 1)) xs m))))
      line

pub no_cell_but_the_last_is_a_plus_unless_the_line_has_it : (tab : ℕ) (line : List ℕ) (i : ℕ) → i < 79 → get_or (row_cells tab line) i blank ≡ 43 → 43 ∈ line
no_cell_but_the_last_is_a_plus_unless_the_line_has_it tab line i h e =
    row_cells_law (λ c. c ≡ 43 → 43 ∈ line) (λ z. absurd (omega (arith, z))) (λ z. absurd (omega (arith, z))) tab line (signs_plus (43 ∈ line) line (λ m. m)) i h e
