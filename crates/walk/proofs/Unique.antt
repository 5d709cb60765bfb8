-- What `put_all` promises determines its answer and every byte of the output.
use Rattle.std.proofs.Common.{Option, Some, None, Result, Ok, Err}
use mathlib.Core.Path.{◌≡◌, sym, ap, ◌∙◌}
use mathlib.Core.List.{List}
use Prim.Native.Nat.{ℕ}
use native.Mathlib.Omega.{arith}
use Rattle.options.specs.Opts.{Opts}
use Rattle.output.proofs.Unique.{wrote_unique}
use Rattle.walk.specs.Cited.Course.{Finished}
use Rattle.walk.specs.declared.Stopped.{Stopped}

pub nowhere_else : {A : Type 0} {f : Option ℕ} {place : ℕ} → f ≡ None → f ≡ Some place → A
nowhere_else a b = let e = sym a ∙ b in absurd (let z : ◌≡◌ {A = ℕ} 0 1 = cc in omega arith)

place_same : {f : Option ℕ} {p q : ℕ} → f ≡ Some p → f ≡ Some q → p ≡ q
place_same a b = let e = sym a ∙ b in cc

pub ended_unique : (most : ℕ) (o : Opts) (notes out a b : List ℕ) (r s : Result ℕ Stopped) → Finished most o notes out a r → Finished most o notes out b s → (r ≡ s) × (a ≡ b)
ended_unique most o notes out a b (Ok m) (Ok n) h k = let u = wrote_unique _ _ _ a _ b _ h.1 k.1 in (ap Ok u.1, u.0)
ended_unique most o notes out a b (Ok m) (Err q) h k = nowhere_else h.0 k.0
ended_unique most o notes out a b (Err p) (Ok n) h k = nowhere_else k.0 h.0
ended_unique most o notes out a b (Err p) (Err q) h k = (ap (λ (n : ℕ). Err (record { at = n })) (place_same h.0 k.0), h.1 ∙ sym k.1)
