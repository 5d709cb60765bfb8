-- A row while it is drawn: after the row's end nothing is marked any more, so that only whether a cell is asked for counts.
use Rattle.std.proofs.Common.{Some, None}
use mathlib.Core.Path.{◌≡◌, refl, sym, ap, ◌∙◌}
use mathlib.Core.Bool.{Bool, true, false, cond, not, ◌||◌, or-false, or_assoc}
use mathlib.Core.List.{List, [], ◌∷◌}
use Prim.Native.Nat.{ℕ, ◌+◌, ◌≤◌, ◌<◌, min}
use native.Mathlib.Omega.{arith}
use lib.Dec.{leb}
use lib.ListN.{length}
use borrow.Author.Tests.{leb-true, leb-false, lt-leb}
use Rattle.spacing.proofs.Laws.{stop_behind}
use Rattle.panel.specs.Panel.{PanelRow, taken, drawn, draw, marked, finished}
use Rattle.panel.specs.Cited.Places.{row_at, step_of}
use Rattle.panel.specs.declared.Sign.{Sign}
use Rattle.panel.specs.declared.Sign.TheVariants.{Tab, Dropped, One, Two}

-- whether a sign takes a cell, and one of several does
abbrev takes : Sign → Bool
takes Tab = false
takes Dropped = false
takes (One c) = true
takes (Two c) = true

unfoldable any : List Sign → Bool
any [] = false
any (s ∷ ss) = takes s || any ss

-- cells that do not fit
taken_over : (cs : List ℕ) (r : PanelRow) → 80 < r.column + length cs → taken cs r ≡ record { cells = r.cells; column = r.column + length cs; over = r.over || true }
unfolding taken
taken_over cs r h = rw (lt-leb (r.column + length cs) 80 h)

past : (end : ℕ) → (false || not (leb end 80)) ≡ true → 80 ≤ end
past end e = go (leb end 80) refl e
  where
    go : (t : Bool) → leb end 80 ≡ t → (false || not t) ≡ true → 80 ≤ end
    go true f g = absurd (let z : ◌≡◌ {A = ℕ} 0 1 = cc in omega arith)
    go false f g = let h = leb-false end 80 f in omega arith

-- what an answer of the code tells of the row
over_told : (d : PanelRow) → None ≡ step_of d → d.over ≡ true
unfolding step_of
over_told d e = go d.over refl e
  where
    go : (t : Bool) → d.over ≡ t → None ≡ cond t None (Some (min 80 d.column)) → d.over ≡ true
    go true f g = f
    go false f g = absurd (let z : ◌≡◌ {A = ℕ} 0 1 = cc in omega arith)

pub on_told : (d : PanelRow) (k : ℕ) → Some k ≡ step_of d → (d.over ≡ false) × (k ≡ min 80 d.column)
unfolding step_of
on_told d k e = go d.over refl e
  where
    go : (t : Bool) → d.over ≡ t → Some k ≡ cond t None (Some (min 80 d.column)) → (d.over ≡ false) × (k ≡ min 80 d.column)
    go true f g = absurd (let z : ◌≡◌ {A = ℕ} 0 1 = cc in omega arith)
    go false f g = (f, cc)

module _ (tab : ℕ) (some : 1 ≤ tab) where
  pub record Behind (r : PanelRow) (s : Sign) : Type 0 where
    pub cells : (drawn tab r s).cells ≡ r.cells
    pub column : 80 ≤ (drawn tab r s).column
    pub over : (drawn tab r s).over ≡ (r.over || takes s)

  behind_one : (r : PanelRow) (s : Sign) → 80 ≤ r.column → Behind r s
  unfolding drawn
  behind_one r Tab h = let s = stop_behind tab r.column some in record { cells = refl; column = omega arith; over = sym (or-false r.over) }
  behind_one r Dropped h = record { cells = refl; column = h; over = sym (or-false r.over) }
  behind_one r (One c) h = let e = taken_over (c ∷ []) r (omega arith) in record { cells = rw e; column = rw e (omega arith); over = rw e }
  behind_one r (Two c) h = let e = taken_over (c ∷ 0 ∷ []) r (omega arith) in record { cells = rw e; column = rw e (omega arith); over = rw e }

  behind : (ss : List Sign) (r : PanelRow) → 80 ≤ r.column → finished (draw tab r ss) ≡ cond (r.over || any ss) (marked r.cells) r.cells
  unfolding finished draw any
  behind [] r h = rw (or-false r.over)
  behind (s ∷ ss) r h =
      let b = behind_one r s h in
      behind ss (drawn tab r s) b.column ∙ rw (b.over, b.cells, or_assoc r.over (takes s) (any ss))

  -- every column after the row counts as 80
  pub far : (cells : List ℕ) (over : Bool) (a b : ℕ) (ss : List Sign) → 80 ≤ a → 80 ≤ b
      → finished (draw tab (record { cells = cells; column = a; over = over }) ss) ≡ finished (draw tab (record { cells = cells; column = b; over = over }) ss)
  far cells over a b ss h g = behind ss (record { cells = cells; column = a; over = over }) h ∙ sym (behind ss (record { cells = cells; column = b; over = over }) g)

  -- a line that has run over stays so
  pub over_stays : (r : PanelRow) (ss : List Sign) → 80 ≤ r.column → r.over ≡ true → finished (draw tab r ss) ≡ marked r.cells
  over_stays r ss h e = behind ss r h ∙ rw e

  -- ---- a step of the code

  -- a sign that lets a line run over ends after the row
  runs_over : (column : ℕ) (cells : List ℕ) (s : Sign) → (drawn tab (row_at column cells) s).over ≡ true → 80 ≤ (drawn tab (row_at column cells) s).column
  unfolding drawn taken
  runs_over column cells Tab e = absurd (let z : ◌≡◌ {A = ℕ} 0 1 = cc in omega arith)
  runs_over column cells Dropped e = absurd (let z : ◌≡◌ {A = ℕ} 0 1 = cc in omega arith)
  runs_over column cells (One c) e = past (column + 1) e
  runs_over column cells (Two c) e = past (column + 2) e

  pub step_over : (column : ℕ) (cells : List ℕ) (s : Sign) (ss : List Sign) → None ≡ step_of (drawn tab (row_at column cells) s)
      → marked (drawn tab (row_at column cells) s).cells ≡ finished (draw tab (row_at column cells) (s ∷ ss))
  unfolding draw
  step_over column cells s ss e =
      let d = drawn tab (row_at column cells) s in
      let o = over_told d e in
      sym (over_stays d ss (runs_over column cells s o) o)

  goes_on : (d : PanelRow) (ss : List Sign) (k : ℕ) → d.over ≡ false → k ≡ min 80 d.column → finished (draw tab (row_at k d.cells) ss) ≡ finished (draw tab d ss)
  goes_on d ss k o e = go (leb d.column 80) refl
    where
      same : row_at d.column d.cells ≡ d
      same = ap (λ (b : Bool). record { cells = d.cells; column = d.column; over = b }) (sym o)

      go : (t : Bool) → leb d.column 80 ≡ t → finished (draw tab (row_at k d.cells) ss) ≡ finished (draw tab d ss)
      go true f = let h = leb-true d.column 80 f in let q : k ≡ d.column = omega arith in rw (q, same)
      go false f =
          let h = leb-false d.column 80 f in
          far d.cells false k d.column ss (omega arith) (omega arith) ∙ rw same

  pub step_on : (column : ℕ) (cells : List ℕ) (s : Sign) (ss : List Sign) (k : ℕ) → Some k ≡ step_of (drawn tab (row_at column cells) s)
      → finished (draw tab (row_at k (drawn tab (row_at column cells) s).cells) ss) ≡ finished (draw tab (row_at column cells) (s ∷ ss))
  unfolding draw
  step_on column cells s ss k e =
      let d = drawn tab (row_at column cells) s in
      let o = on_told d k e in
      goes_on d ss k o.0 o.1
