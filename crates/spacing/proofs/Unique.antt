-- Two results that keep a promise are equal: gap width and added space.
use Rattle.std.proofs.Common.{Option}
use mathlib.Core.Path.{◌≡◌, sym, ◌∙◌}
use mathlib.Core.Bool.{Bool}
use Prim.Native.Nat.{ℕ}
use Rattle.spacing.specs.Cited.Bounds.{GapIs, AddedIs}

pub gap_unique : (tab column : ℕ) (before : Option ℕ) (after r s : ℕ) → GapIs tab column before after r → GapIs tab column before after s → r ≡ s
gap_unique tab column before after r s a b = a.is ∙ sym b.is

pub added_unique : (uniform new_line sentence_start previousPunct : Bool) (r s : ℕ) → AddedIs uniform new_line sentence_start previousPunct r
    → AddedIs uniform new_line sentence_start previousPunct s → r ≡ s
added_unique uniform new_line sentence_start previousPunct r s a b = a.is ∙ sym b.is
