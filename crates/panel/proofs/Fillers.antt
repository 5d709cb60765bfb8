-- A row's law: no filler without its wide character before it.
use mathlib.Core.Path.{◌≡◌, refl, sym, ◌∙◌}
use mathlib.Core.Bool.{Bool, true, false, cond}
use mathlib.Core.List.{List, [], ◌∷◌}
use Prim.Native.Nat.{ℕ, zero, suc, ◌+◌, ◌-◌, ◌≤◌, ◌<◌}
use native.Mathlib.Numerals.{add-one}
use native.Mathlib.Omega.{arith}
use lib.Dec.{leb, eqb}
use lib.ListN.{length, get_or, set, replicate, length-set, length-replicate, get_or-eq_default}
use lib.Seq.{get_or-set_same, get_or-set_other, set_comm}
use borrow.Author.Tests.{eqb-true, eqb-false, leb-true}
use Rattle.lists.specs.Theorems.All.{All}
use Rattle.lists.proofs.Pieces.{each_induct}
use Rattle.widths.specs.Ranges.{width_in}
use Rattle.widths.specs.Table.{table}
use Rattle.widths.specs.Widths.{width_of}
use Rattle.text.specs.Rfc3629.{Front, front, nothing, decode}
use Rattle.spacing.proofs.Laws.{stop_behind}
use Rattle.panel.specs.Panel.{PanelRow, blank, control, sign_of, shown_as, size, signs, blank_row, taken, drawn, draw, marked, finished, row_cells}
use Rattle.panel.specs.declared.Sign.{Sign}
use Rattle.panel.specs.declared.Sign.TheVariants.{Tab, Dropped, One, Two}

-- a wide character is before a place
abbrev WideBefore : List ℕ → ℕ → Type 0
WideBefore cells i = (0 < i) × (width_of (get_or cells (i - 1) blank) ≡ 2)

abbrev Paired : List ℕ → Type 0
Paired cells = (i : ℕ) → get_or cells i blank ≡ 0 → WideBefore cells i

-- a row, marked before a column alone
record Kept (cells : List ℕ) (column : ℕ) : Type 0 where
  long : length cells ≡ 80
  paired : Paired cells
  unmarked : (i : ℕ) → column ≤ i → get_or cells i blank ≡ blank

-- a store at a place: a filler is after a wide character, and what is not one before no filler
module _ (cells : List ℕ) (k v : ℕ) (inside : k < length cells) (paired : Paired cells) (next : get_or cells (k + 1) blank ≡ 0 → ⊥) (fill : v ≡ 0 → WideBefore cells k) where
  still : (i : ℕ) → (i ≡ k → ⊥) → get_or (set cells k v) i blank ≡ get_or cells i blank
  still i ne = get_or-set_other cells k i v blank ne

  before : (i : ℕ) → (i ≡ k + 1 → ⊥) → WideBefore cells i → WideBefore (set cells k v) i
  before i ne w = (w.0, rw (still (i - 1) (λ e. ne (omega (arith, e, w.0)))) w.1)

  stored : Paired (set cells k v)
  stored i z = go (eqb i k) refl
    where
      go : (t : Bool) → eqb i k ≡ t → WideBefore (set cells k v) i
      go true e =
          let q = eqb-true i k e in
          let o : get_or (set cells k v) k blank ≡ 0 = rw q at z in
          before i (λ b. absurd (omega (arith, b))) (rw q (fill (sym (get_or-set_same cells k v blank inside) ∙ o)))
      go false e =
          let o : get_or cells i blank ≡ 0 = sym (still i (eqb-false i k e)) ∙ z in
          before i (λ b. next (rw b at o)) (paired i o)

-- the same at the column that is marked next
kept_stored : (cells : List ℕ) (k v : ℕ) → k < 80 → Kept cells k → (v ≡ 0 → WideBefore cells k) → Kept (set cells k v) (k + 1)
kept_stored cells k v h c fill =
    let l = c.long in
    record {
      long = length-set cells k v ∙ l;
      paired = stored cells k v (omega arith) c.paired (λ z. absurd (omega (arith, c.unmarked (k + 1) (omega arith)))) fill;
      unmarked = λ i g. get_or-set_other cells k i v blank (λ e. absurd (omega (arith, e))) ∙ c.unmarked i (omega arith);
    }

kept_later : (cells : List ℕ) (k n : ℕ) → k ≤ n → Kept cells k → Kept cells n
kept_later cells k n h c = record { long = c.long; paired = c.paired; unmarked = λ i g. c.unmarked i (omega arith) }

-- ---- the signs of a line

abbrev Plain : Sign → Type 0
Plain Tab = Unit {0}
Plain Dropped = Unit {0}
Plain (One c) = c ≡ 0 → ⊥
Plain (Two c) = width_of c ≡ 2

zero_control : control 0 ≡ true
unfolding control
zero_control = refl

plain_sign : (c : ℕ) → Plain (sign_of c)
unfolding sign_of
plain_sign c = go (eqb c 9) (control c) (eqb (width_of c) 0) (eqb (width_of c) 2) refl refl refl refl
  where
    go : (a b d e : Bool) → eqb c 9 ≡ a → control c ≡ b → eqb (width_of c) 0 ≡ d → eqb (width_of c) 2 ≡ e
        → Plain (cond a Tab (cond b (One blank) (cond d Dropped (cond e (Two c) (One c)))))
    go true b d e p q r s = tt
    go false true d e p q r s = λ z. absurd (omega (arith, z))
    go false false true e p q r s = tt
    go false false false true p q r s = eqb-true (width_of c) 2 s
    go false false false false p q r s = λ z. absurd (let y : ◌≡◌ {A = Bool} true false = sym zero_control ∙ (rw z at q) in let x : ◌≡◌ {A = ℕ} 0 1 = cc in omega arith)

plain_shown : (f : Front) → Plain (shown_as f)
plain_shown nothing = λ z. absurd (omega (arith, z))
plain_shown (front c n) = plain_sign c

plain_signs : (line : List ℕ) → All Plain (signs line)
unfolding signs
plain_signs line =
    each_induct (λ xs. size (decode xs) - 1) (λ xs. shown_as (decode xs)) (λ xs ss. All Plain ss) tt (λ xs h i. (plain_shown (decode xs), i)) line

-- ---- drawing

no_width : width_of 0 ≡ 1
unfolding width_of width_in table
no_width = refl

kept_drawn : (tab : ℕ) → 1 ≤ tab → (r : PanelRow) (s : Sign) → Plain s → Kept r.cells r.column → Kept (drawn tab r s).cells (drawn tab r s).column
unfolding drawn taken
kept_drawn tab some r Tab p k = let b = stop_behind tab r.column some in kept_later _ _ _ (omega arith) k
kept_drawn tab some r Dropped p k = k
kept_drawn tab some r (One c) p k = go (leb (r.column + 1) 80) refl
  where
    go : (t : Bool) → leb (r.column + 1) 80 ≡ t → Kept (cond t (set r.cells r.column c) r.cells) (r.column + 1)
    go true e = let h = leb-true (r.column + 1) 80 e in kept_stored r.cells r.column c (omega arith) k (λ z. absurd (p z))
    go false e = kept_later r.cells r.column (r.column + 1) (omega arith) k
kept_drawn tab some r (Two c) p k = go (leb (r.column + 2) 80) refl
  where
    go : (t : Bool) → leb (r.column + 2) 80 ≡ t → Kept (cond t (set (set r.cells r.column c) (suc r.column) 0) r.cells) (r.column + 2)
    go true e =
        let h = leb-true (r.column + 2) 80 e in
        let l = k.long in
        let n : c ≡ 0 → ⊥ = λ z. absurd (let w = rw z at p in omega (arith, w, no_width)) in
        let one = kept_stored r.cells r.column c (omega arith) k (λ z. absurd (n z)) in
        let q : r.column + 1 - 1 ≡ r.column = omega arith in
        let w : width_of (get_or (set r.cells r.column c) (r.column + 1 - 1) blank) ≡ 2 = rw (q, get_or-set_same r.cells r.column c blank (omega arith)) p in
        let two = kept_stored (set r.cells r.column c) (r.column + 1) 0 (omega arith) one (λ z. (omega arith, w)) in
        let f : r.column + 1 + 1 ≡ r.column + 2 = omega arith in
        rw (← add-one, ← f) two
    go false e = kept_later r.cells r.column (r.column + 2) (omega arith) k

kept_all : (tab : ℕ) → 1 ≤ tab → (ss : List Sign) → All Plain ss → (r : PanelRow) → Kept r.cells r.column → Kept (draw tab r ss).cells (draw tab r ss).column
unfolding draw
kept_all tab some [] p r k = k
kept_all tab some (s ∷ ss) p r k = kept_all tab some ss p.1 (drawn tab r s) (kept_drawn tab some r s p.0 k)

blanks_at : (n i : ℕ) → get_or (replicate n blank) i blank ≡ blank
blanks_at zero i = refl
blanks_at (suc n) zero = refl
blanks_at (suc n) (suc i) = blanks_at n i

kept_begun : Kept blank_row.cells blank_row.column
unfolding blank_row
kept_begun =
    record {
      long = length-replicate 80 blank;
      paired = λ i z. absurd (omega (arith, z, blanks_at 80 i));
      unmarked = λ i h. blanks_at 80 i;
    }

marked_paired : (cells : List ℕ) → length cells ≡ 80 → Paired cells → Paired (marked cells)
unfolding marked
marked_paired cells l p = go (eqb (get_or cells 79 0) 0)
  where
    behind : get_or cells 80 blank ≡ blank
    behind = get_or-eq_default cells blank (omega arith)

    last : Paired (set cells 79 0x2B)
    last = stored cells 79 0x2B (omega arith) p (λ z. absurd (omega (arith, z, behind))) (λ z. absurd (omega (arith, z)))

    go : (t : Bool) → Paired (set (cond t (set cells 78 blank) cells) 79 0x2B)
    go false = last
    go true =
        rw (set_comm cells 78 79 blank 0x2B (λ e. absurd (omega (arith, e))))
        (stored (set cells 79 0x2B) 78 blank (rw (length-set cells 79 0x2B) (omega arith)) last
        (λ z. absurd (omega (arith, z, get_or-set_same cells 79 0x2B blank (omega arith)))) (λ z. absurd (omega (arith, z))))

pub no_filler_without_its_wide_character_before_it : (tab : ℕ) → 1 ≤ tab → (line : List ℕ) (i : ℕ) → get_or (row_cells tab line) i blank ≡ 0 → WideBefore (row_cells tab line) i
unfolding row_cells finished
no_filler_without_its_wide_character_before_it tab some line = go (draw tab blank_row (signs line)) (kept_all tab some (signs line) (plain_signs line) blank_row kept_begun)
  where
    go : (r : PanelRow) → Kept r.cells r.column → Paired (cond r.over (marked r.cells) r.cells)
    go r k = pick r.over
      where
        pick : (t : Bool) → Paired (cond t (marked r.cells) r.cells)
        pick true = marked_paired r.cells k.long k.paired
        pick false = k.paired
