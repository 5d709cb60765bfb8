-- Plain characters in ink: a run of them is as many glyphs of ink, each of one column.
use mathlib.Core.Path.{◌≡◌, refl, sym}
use mathlib.Core.Bool.{Bool, false}
use mathlib.Core.List.{List}
use Prim.Native.Nat.{ℕ, zero, suc, ◌+◌, ◌-◌, ◌≤◌, ◌<◌}
use native.Mathlib.Omega.{arith}
use lib.ListN.{length, get_or}
use Rattle.widths.specs.Widths.{width_of}
use Rattle.widths.proofs.Laws.{one_before_300}
use Rattle.text.proofs.Glyphs.{Here, ascii_here}
use Rattle.text.proofs.Leads.{plain_ink}
use Rattle.words.specs.Cited.Scan.{punct_code, Plain, OverPlain}
use Rattle.words.specs.declared.Ink.{Ink}
use Rattle.words.proofs.InkRuns.{InkLeft, ink_more}

pub plain_here : (s : List ℕ) (at i : ℕ) → at ≡ i → i < length s → 33 ≤ get_or s i 0 → get_or s i 0 < 128 → Here false s at (get_or s i 0) (i + 1)
plain_here s at i e h k l = rw (e, ← plain_ink (get_or s i 0) k l) (ascii_here s i h (omega arith))

-- ---- a run, character by character

module _ {s : List ℕ} {from : ℕ} where
  -- the front of a run, and its last character
  pub plain_front : {to end : ℕ} → Plain s from to → from ≤ end → end ≤ to → Plain s from end
  plain_front p h k = record { on = h; within = omega (arith, p.within); least = λ i a b. p.least i a (omega arith); most = λ i a b. p.most i a (omega arith) }

  plain_last : {last : ℕ} → Plain s from (last + 1) → {i : ℕ} → i ≡ last → from ≤ last → Here false s i (get_or s last 0) (last + 1)
  plain_last {last} p e h = plain_here s _ last e (omega (arith, p.within)) (p.least last h (omega arith)) (p.most last h (omega arith))

  -- each takes a column
  plain_width : {last : ℕ} → Plain s from (last + 1) → from ≤ last → 1 ≡ width_of (get_or s last 0)
  plain_width {last} p h = sym (one_before_300 (get_or s last 0) (let m = p.most last h (omega arith) in omega arith))

-- ---- a run in ink

module _ {glue : Bool} {s : List ℕ} {at : ℕ} where
  ink_same : {end width end' width' : ℕ} {punct punct' : Bool} → InkLeft glue s at (record { end = end; width = width; punct = punct })
      → end' ≡ end → width' ≡ width → punct' ≡ punct → InkLeft glue s at (record { end = end'; width = width'; punct = punct' })
  ink_same i e w p = rw (e, w, p) i

  module _ (w : Ink) (left : InkLeft glue s at w) where
    -- up to the character n places on
    ink_run : (n last : ℕ) → last ≡ w.end + n → Plain s w.end (last + 1)
        → InkLeft glue s at (record { end = last + 1; width = w.width + (last + 1 - w.end); punct = punct_code (get_or s last 0) })
    ink_run zero last e p =
        ink_more w (record { end = last + 1; width = w.width + (last + 1 - w.end); punct = punct_code (get_or s last 0) }) left (plain_last p (omega arith) (omega arith)) {n = 1} (plain_width p (omega arith)) (omega arith) refl
    ink_run (suc n) last e p =
        let i = ink_run n (w.end + n) refl (plain_front p (omega arith) (omega arith)) in
        ink_more (record { end = w.end + n + 1; width = w.width + (w.end + n + 1 - w.end); punct = punct_code (get_or s (w.end + n) 0) }) (record { end = last + 1; width = w.width + (last + 1 - w.end); punct = punct_code (get_or s last 0) }) i
        (plain_last p (omega arith) (omega arith)) {n = 1} (plain_width p (omega arith)) (omega arith) refl

    pub ink_plain : (r : Ink) → OverPlain s w r → InkLeft glue s at r
    ink_plain r o =
        let l = o.on in
        let i = ink_run (r.end - 1 - w.end) (r.end - 1) (omega arith) (plain_front o.run (omega arith) (omega arith)) in
        ink_same i (omega arith) (omega (arith, o.width)) o.punct
