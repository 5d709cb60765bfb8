-- Two results that keep a matching function's promise are equal.
use Rattle.std.proofs.Common.{Result, Ok, Err}
use mathlib.Core.Path.{◌≡◌, sym, ap, ap₂, ◌∙◌}
use mathlib.Core.List.{List}
use Prim.Native.Nat.{ℕ}
use native.Mathlib.Omega.{arith}
use lib.ListN.{length, drop, length-drop}
use Rattle.checker.specs.Matching.{Match, on, fault}
use Rattle.checker.specs.Cited.Places.{SpotIn, Matches}
use Rattle.checker.specs.declared.Spot.{Spot}
use Rattle.checker.specs.declared.Fault.{Fault}
use Rattle.checker.proofs.Decides.{on_fault}

spot_unique : (digest : List ℕ) (p q : Spot) → SpotIn digest p → SpotIn digest q → on (drop p.at digest) p.line ≡ on (drop q.at digest) q.line → p ≡ q
spot_unique digest p q a b e =
    let d : drop p.at digest ≡ drop q.at digest = cc in
    let l : p.line ≡ q.line = cc in
    let k : p.at ≡ q.at = omega (arith, a.within, b.within, sym (length-drop p.at digest) ∙ ap length d ∙ length-drop q.at digest) in
    ap₂ (λ (x y : ℕ). record { at = x; line = y }) k l

pub matches_unique : (digest : List ℕ) (m : Match) (r s : Result Spot Fault) → Matches digest m r → Matches digest m s → r ≡ s
matches_unique digest m (Ok p) (Ok q) a b = ap Ok (spot_unique digest p q a.inside b.inside (a.is ∙ sym b.is))
matches_unique digest m (Ok p) (Err f) a b = on_fault (a.is ∙ sym b.is)
matches_unique digest m (Err f) (Ok q) a b = on_fault (b.is ∙ sym a.is)
matches_unique digest m (Err f) (Err g) a b = let e : f.line ≡ g.line = (let z : fault f.line ≡ fault g.line = a.is ∙ sym b.is in cc) in ap (λ (line : ℕ). Err (record { line = line })) e
