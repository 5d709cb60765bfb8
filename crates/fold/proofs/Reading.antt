-- Folding reads a text as the panel does: what is at its front has as many bytes, and takes as many columns.
use mathlib.Core.Path.{◌≡◌, refl}
use mathlib.Core.Bool.{Bool, true, false, cond, ◌&&◌, ◌||◌, and-eq-true_iff}
use mathlib.Core.List.{List}
use Prim.Native.Nat.{ℕ, ◌+◌, ◌<◌}
use native.Mathlib.Omega.{arith}
use lib.Dec.{ltb, leb, eqb}
use lib.ListN.{length}
use lib.Seq.{length-take-le}
use borrow.Author.Tests.{ltb-true, leb-true, eqb-true, eqb-false, lt-ltb}
use Rattle.widths.specs.Ranges.{width_in}
use Rattle.widths.specs.Table.{table}
use Rattle.widths.specs.Widths.{width_of}
use Rattle.text.specs.Rfc3629.{Front, front, nothing, decode}
use Rattle.text.specs.Characters.{glyph_as, glyph}
use Rattle.text.proofs.Decoder.{sound}
use Rattle.lines.specs.Classes.{next_stop, column_behind}
use Rattle.lines.proofs.Measures.{narrow}
use Rattle.panel.specs.Panel.{PanelRow, blank, control, sign_of, shown_as, size, taken, drawn}
use Rattle.panel.specs.declared.Sign.TheVariants.{Tab, Dropped, One, Two}

control_width : (c : ℕ) → control c ≡ true → width_of c ≡ 1
unfolding control width_of width_in table
control_width c e = rw (lt-ltb c 0x300 (small (ltb c 0x20) refl e), width_in)
  where
    small : (t : Bool) → ltb c 0x20 ≡ t → (t || leb 0x7F c && leb c 0x9F) ≡ true → c < 0x300
    small true f e = omega (arith, ltb-true c 0x20 f)
    small false f e = omega (arith, leb-true c 0x9F ((and-eq-true_iff (leb 0x7F c) (leb c 0x9F)).0 e).1)

pub columns_as_on_the_panel : (tab : ℕ) (r : PanelRow) (xs : List ℕ) → column_behind tab r.column (glyph xs) ≡ (drawn tab r (shown_as (decode xs))).column
unfolding column_behind glyph sign_of drawn taken
columns_as_on_the_panel tab r xs = go (decode xs)
  where
    by : (c : ℕ) → cond (eqb c 9) (next_stop tab r.column) (r.column + width_of c) ≡ (drawn tab r (sign_of c)).column
    by c = pick (eqb c 9) (control c) (eqb (width_of c) 0) (eqb (width_of c) 2) refl refl refl refl
      where
        pick : (a b d e : Bool) → eqb c 9 ≡ a → control c ≡ b → eqb (width_of c) 0 ≡ d → eqb (width_of c) 2 ≡ e
            → cond a (next_stop tab r.column) (r.column + width_of c) ≡ (drawn tab r (cond a Tab (cond b (One blank) (cond d Dropped (cond e (Two c) (One c)))))).column
        pick true b d e p q s t = refl
        pick false true d e p q s t = omega (arith, control_width c q)
        pick false false true e p q s t = omega (arith, eqb-true (width_of c) 0 s)
        pick false false false true p q s t = omega (arith, eqb-true (width_of c) 2 t)
        pick false false false false p q s t = omega (arith, narrow c (width_of c) refl, eqb-false (width_of c) 0 s, eqb-false (width_of c) 2 t)

    go : (f : Front) → cond (eqb (glyph_as xs f).code 9) (next_stop tab r.column) (r.column + (glyph_as xs f).width) ≡ (drawn tab r (shown_as f)).column
    go (front c n) = by c
    go nothing = refl

pub bytes_as_on_the_panel : (xs : List ℕ) → 0 < length xs → length (glyph xs).bytes ≡ size (decode xs)
unfolding glyph
bytes_as_on_the_panel xs h = go (decode xs) refl
  where
    go : (f : Front) → decode xs ≡ f → length (glyph_as xs f).bytes ≡ size f
    go (front c n) e = length-take-le n xs (sound xs c n e).within
    go nothing e = length-take-le 1 xs (omega arith)
