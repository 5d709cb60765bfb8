-- Blanks without a tab: the after count has every one.
use Rattle.std.proofs.Common.{Some, None}
use mathlib.Core.Path.{◌≡◌, refl}
use mathlib.Core.Bool.{Bool, true, false, cond, ◌||◌}
use mathlib.Core.List.{List, [], ◌∷◌}
use mathlib.Core.Logic.{◌⊎◌, inl, inr}
use Prim.Native.Nat.{ℕ, ◌+◌}
use native.Mathlib.Omega.{arith}
use lib.Dec.{ltb}
use lib.ListN.{length}
use Rattle.lines.specs.Classes.{next_stop}
use Rattle.text.specs.Characters.{Glyph, is_tab}
use Rattle.words.specs.Words.{Gap, gap_tab, gap_from, gap_of, has_tab}

-- a tab that was seen stays seen
tab_stays : (tab before after : ℕ) (bs : List Glyph) → has_tab (gap_from tab (record { before = Some before; after = after }) bs).before ≡ true
unfolding gap_from
tab_stays tab before after [] = refl
tab_stays tab before after (b ∷ bs) = go (is_tab b) (λ n. tab_stays tab before n bs)
  where
    go : (t : Bool) → ((n : ℕ) → has_tab (gap_from tab (record { before = Some before; after = n }) bs).before ≡ true)
        → has_tab (gap_from tab (cond t (gap_tab tab (Some before) after) (record { before = Some before; after = after + 1 })) bs).before ≡ true
    go true ih = ih (next_stop tab after)
    go false ih = ih (after + 1)

-- a tab was seen, or each blank has added to the after count
abbrev TabOrAll : ℕ → Gap → ℕ → Type 0
TabOrAll n g after = (has_tab g.before ≡ true) ⊎ (g.after ≡ after + n)

tab_or_all : (tab after : ℕ) (bs : List Glyph) → TabOrAll (length bs) (gap_from tab (record { before = None; after = after }) bs) after
unfolding gap_from
tab_or_all tab after [] = inr (omega arith)
tab_or_all tab after (b ∷ bs) = go (is_tab b) (tab_or_all tab (after + 1) bs)
  where
    go : (t : Bool) → TabOrAll (length bs) (gap_from tab (record { before = None; after = after + 1 }) bs) (after + 1)
        → TabOrAll (length (b ∷ bs)) (gap_from tab (cond t (gap_tab tab None after) (record { before = None; after = after + 1 })) bs) after
    go true ih = inl (tab_stays tab after 0 bs)
    go false (inl t) = inl t
    go false (inr e) = inr (omega (arith, e))

-- so where a tab parts sentences anyway, the after count serves for the count of blanks
pub tabless_wide : (tab : ℕ) (bs : List Glyph) → (has_tab (gap_of tab bs).before || ltb 1 (length bs)) ≡ (has_tab (gap_of tab bs).before || ltb 1 (gap_of tab bs).after)
unfolding gap_of
tabless_wide tab bs = go (gap_from tab (record { before = None; after = 0 }) bs) (tab_or_all tab 0 bs)
  where
    go : (g : Gap) → TabOrAll (length bs) g 0 → (has_tab g.before || ltb 1 (length bs)) ≡ (has_tab g.before || ltb 1 g.after)
    go g (inl t) = rw t
    go g (inr e) = let n : g.after ≡ length bs = omega (arith, e) in rw n
