-- What other crates use of widths: at most 2, 1 before U+0300, and at most 1 before U+1100, where a character of three bytes may be wide.
use mathlib.Core.Path.{◌≡◌, refl}
use mathlib.Core.Bool.{Bool, true, false, ◌&&◌, ◌||◌}
use mathlib.Core.List.{List, [], ◌∷◌}
use Prim.Native.Nat.{ℕ, ◌≤◌, ◌<◌}
use native.Mathlib.Omega.{arith}
use lib.Dec.{T, leb, ltb, leb→le}
use borrow.Author.Tests.{ltb-false, leb-true, lt-ltb}
use Rattle.widths.specs.Ranges.{Range, span, width_in}
use Rattle.widths.specs.Table.{table}
use Rattle.widths.specs.Widths.{width_of}
use Rattle.widths.proofs.Ranges.{left, right}

-- ranges that start at n or after it are at most m wide, those before it at most k
unfoldable pub modest : ℕ → ℕ → ℕ → List Range → Bool
modest k n m [] = true
modest k n m (span a b w ∷ rs) = leb w m && ((leb n a || leb w k) && modest k n m rs)

-- a range before it that may be as wide as m would hold characters before n
narrow : (a n w k : ℕ) → T (leb n a || leb w k) → a < n → w ≤ k
narrow a n w k t h = go (leb n a) (leb w k) refl refl t
  where
    go : (s r : Bool) → leb n a ≡ s → leb w k ≡ r → T (s || r) → w ≤ k
    go true r e f u = let l = leb-true n a e in absurd (omega arith)
    go false true e f u = leb-true w k f
    go false false e f u = absurd u

table_modest : T (modest 1 0x1100 2 table)
unfolding modest table
table_modest = tt

within : (k n m : ℕ) → 1 ≤ m → (rs : List Range) → T (modest k n m rs) → (c : ℕ) → width_in rs c ≤ m
unfolding width_in modest
within k n m o [] t c = o
within k n m o (span a b w ∷ rs) t c =
    go (within k n m o rs (right (leb n a || leb w k) _ (right (leb w m) _ t)) c) (ltb c a) (leb c b) refl refl
  where
    go : width_in rs c ≤ m → (s r : Bool) → ltb c a ≡ s → leb c b ≡ r → width_in (span a b w ∷ rs) c ≤ m
    go i true r e f = rw (e, width_in) o
    go i false true e f = rw (e, width_in, f) (leb→le w m (left (leb w m) _ t))
    go i false false e f = rw (e, width_in, f) i

before : (k n m : ℕ) → 1 ≤ k → (rs : List Range) → T (modest k n m rs) → (c : ℕ) → c < n → width_in rs c ≤ k
unfolding width_in modest
before k n m o [] t c h = o
before k n m o (span a b w ∷ rs) t c h =
    go (before k n m o rs (right (leb n a || leb w k) _ (right (leb w m) _ t)) c h) (ltb c a) (leb c b) refl refl
  where
    go : width_in rs c ≤ k → (s r : Bool) → ltb c a ≡ s → leb c b ≡ r → width_in (span a b w ∷ rs) c ≤ k
    go i true r e f = rw (e, width_in) o
    go i false true e f =
        let l = ltb-false c a e in
        rw (e, width_in, f) (narrow a n w k (left (leb n a || leb w k) _ (right (leb w m) _ t)) (omega arith))
    go i false false e f = rw (e, width_in, f) i

pub at_most_two : (c : ℕ) → width_of c ≤ 2
unfolding width_of
at_most_two c = within 1 0x1100 2 (omega arith) table table_modest c

pub at_most_one_before_1100 : (c : ℕ) → c < 0x1100 → width_of c ≤ 1
unfolding width_of
at_most_one_before_1100 c h = before 1 0x1100 2 (omega arith) table table_modest c h

pub one_before_300 : (c : ℕ) → c < 0x300 → width_of c ≡ 1
unfolding width_of width_in table
one_before_300 c h = rw (lt-ltb c 0x300 h, width_in)
