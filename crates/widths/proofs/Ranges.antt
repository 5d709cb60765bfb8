-- Laws of ranges that ascend: those that end before a number may be left out.
use mathlib.Core.Path.{◌≡◌, refl}
use mathlib.Core.Bool.{Bool, true, false, ◌&&◌}
use mathlib.Core.List.{List, [], ◌∷◌}
use Prim.Native.Nat.{ℕ, suc, ◌≤◌, ◌<◌}
use native.Mathlib.Omega.{arith}
use lib.Dec.{T, leb, ltb, leb→le}
use borrow.Author.Tests.{ltb-true, lt-leb, le-ltb}
use Rattle.widths.specs.Ranges.{Range, span, width_in, ascending}

-- both tests
pub left : (a b : Bool) → T (a && b) → T a
left true b t = tt
left false b t = t

pub right : (a b : Bool) → T (a && b) → T b
right true b t = t
right false b t = absurd t

module _ (n a b w : ℕ) (rs : List Range) (up : T (ascending n (span a b w ∷ rs))) where
  pub from : n ≤ a
  unfolding ascending
  from = leb→le n a (left (leb n a) _ up)

  pub some : a ≤ b
  unfolding ascending
  some = leb→le a b (left (leb a b) _ (right (leb n a) _ up))

  pub rest : T (ascending (suc b) rs)
  unfolding ascending
  rest = right (leb a b) _ (right (leb n a) _ up)

-- a range that ends before c
pub head_past : (a b w : ℕ) (rs : List Range) (c : ℕ) → a ≤ b → b < c → width_in (span a b w ∷ rs) c ≡ width_in rs c
unfolding width_in
head_past a b w rs c s h = rw (le-ltb c a (omega arith), width_in, lt-leb c b h)

-- the ranges that do not end before d
unfoldable pub past : ℕ → List Range → List Range
past d [] = []
past d (span a b w ∷ rs) = elim (ltb b d) [ true ↦ past d rs | false ↦ span a b w ∷ rs ]

pub past_same : (n d : ℕ) (rs : List Range) (c : ℕ) → T (ascending n rs) → d ≤ c → width_in (past d rs) c ≡ width_in rs c
unfolding past
past_same n d [] c up h = refl
past_same n d (span a b w ∷ rs) c up h = go (past_same (suc b) d rs c (rest n a b w rs up) h) (ltb b d) refl
  where
    go : width_in (past d rs) c ≡ width_in rs c → (s : Bool) → ltb b d ≡ s → width_in (past d (span a b w ∷ rs)) c ≡ width_in (span a b w ∷ rs) c
    go i true e =
        let l = ltb-true b d e in
        let s = some n a b w rs up in
        rw (e, past, head_past a b w rs c s (omega arith)) i
    go i false e = rw (e, past) refl
