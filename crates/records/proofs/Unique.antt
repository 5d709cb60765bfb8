-- Two results that keep a promise are equal: what `get` answers, and the marks that a breaker leaves.
use mathlib.Core.Path.{◌≡◌, sym, ◌∙◌}
use mathlib.Core.Bool.{Bool}
use mathlib.Core.List.{List}
use Prim.Native.Nat.{ℕ}
use Rattle.records.specs.declared.Word.{Word as Record}
use Rattle.records.specs.Cited.Table.{Got}
use Rattle.records.specs.Cited.Marks.{MarkedBy}

pub got_unique : (t : List ℕ) (i : ℕ) (v w : Record) → Got t i v → Got t i w → v ≡ w
got_unique t i v w a b = a.is ∙ sym b.is

-- every mark
pub marked_unique : (n : ℕ) (t : List ℕ) (breaks : List Bool) (a b : List ℕ) → MarkedBy n t breaks a → MarkedBy n t breaks b → a ≡ b
marked_unique n t breaks a b h k = h.is ∙ sym k.is
