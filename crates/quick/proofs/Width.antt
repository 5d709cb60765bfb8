-- By its own sums quick keeps to the width: a word that goes on the line ends within it (RULES 21.7).
use mathlib.Core.Path.{◌≡◌, refl}
use mathlib.Core.Bool.{Bool, true, false, cond, true≢false}
use mathlib.Core.List.{List, ◌∷◌}
use Prim.Native.Nat.{ℕ, ◌+◌, ◌≤◌}
use lib.Dec.{ltb}
use borrow.Author.Tests.{ltb-false}
use Rattle.records.specs.Word.{Word}
use Rattle.spacing.specs.Spacing.{gap_at, added_space}
use Rattle.spacing.specs.declared.Setting.{Setting}
use Rattle.quick.specs.Quick.{quick_from}

-- the column that a word reaches on the line: after the gap, the added space, and its own columns
abbrev pub reached_by : Setting → ℕ → Bool → Word → ℕ
reached_by g column punct w = column + gap_at g.tab column w + added_space g.uniform w.new_line w.sentence_start punct + w.width

-- A word either starts a line, after the indent, or goes on the line and ends within the width.
pub record Goes (g : Setting) (column : ℕ) (punct : Bool) (w : Word) (ws : List Word) : Type 0 where
  pub starts : Bool
  pub next : quick_from g column punct (w ∷ ws) ≡ starts ∷ quick_from g (cond starts (g.indent + w.width) (reached_by g column punct w)) w.ends_punct ws
  pub within : starts ≡ false → reached_by g column punct w ≤ g.width

pub goes : (g : Setting) (column : ℕ) (punct : Bool) (w : Word) (ws : List Word) → Goes g column punct w ws
unfolding quick_from
goes g column punct w ws = pick (ltb g.width (reached_by g column punct w)) refl
  where
    pick : (t : Bool) → ltb g.width (reached_by g column punct w) ≡ t → Goes g column punct w ws
    pick true e = record { starts = true; next = rw (quick_from, e) refl; within = λ h. absurd (true≢false h) }
    pick false e = record { starts = false; next = rw (quick_from, e) refl; within = λ h. ltb-false g.width (reached_by g column punct w) e }
