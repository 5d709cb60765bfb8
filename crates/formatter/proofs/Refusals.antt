-- What is told before any piece is looked at, by the case.
use Rattle.std.proofs.Common.{Result, Ok, Err}
use mathlib.Core.Path.{◌≡◌}
use mathlib.Core.List.{List}
use Prim.Native.Nat.{ℕ}
use Rattle.walk.specs.declared.notes.Notes.{Notes}
use Rattle.formatter.specs.Format.{Limits}
use Rattle.formatter.specs.Cited.Call.{Admits}
use Rattle.formatter.specs.declared.Refusal.{Refusal}

module _ (l : Limits) (block notes : List ℕ) where
  pub passed : {r : Result Notes Refusal} {n : Notes} → Admits l block notes r → r ≡ Ok n → Admits l block notes (Ok n)
  passed s e = rw e at s

  pub refused : {r : Result Notes Refusal} {q : Refusal} → Admits l block notes r → r ≡ Err q → Admits l block notes (Err q)
  refused s e = rw e at s
