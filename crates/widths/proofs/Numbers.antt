-- A range as one number, and back: one test over the table, which is computed.
use mathlib.Core.Path.{◌≡◌, refl}
use mathlib.Core.Bool.{Bool, true, ◌&&◌}
use mathlib.Core.List.{List, [], ◌∷◌}
use Prim.Native.Nat.{ℕ, zero, suc, ◌+◌, ◌*◌, ◌/◌, ◌%◌, ◌<◌}
use native.Mathlib.Omega.{arith}
use lib.Dec.{T, ltb, ltb→lt}
use lib.ListN.{get_or}
use Rattle.widths.specs.Ranges.{Range, span}
use Rattle.widths.specs.Table.{table}
use Rattle.widths.specs.Cited.Forms.{beyond, row_number}
use Rattle.widths.proofs.Ranges.{left, right}

-- its last character has 24 bits, and its width 8
unfoldable small : List Range → Bool
small [] = true
small (span a b w ∷ rs) = ltb b 0x1000000 && (ltb w 256 && small rs)

table_small : T (small table)
unfolding small table
table_small = tt

-- what is read from a number
abbrev read : ℕ → Range
read n = span (n / 0x100000000) (n / 256 % 0x1000000) (n % 256)

same : (a b w : ℕ) → b < 0x1000000 → w < 256 → read (row_number (span a b w)) ≡ span a b w
same a b w h k =
    let n = a * 0x100000000 + b * 256 + w in
    let f : n / 0x100000000 ≡ a = omega arith in
    let l : n / 256 % 0x1000000 ≡ b = omega arith in
    let m : n % 256 ≡ w = omega arith in
    rw (f, l, m)

each : (rs : List Range) (k : ℕ) → T (small rs) → read (row_number (get_or rs k beyond)) ≡ get_or rs k beyond
unfolding small
each [] k t = refl
each (span a b w ∷ rs) zero t =
    same a b w (ltb→lt b 0x1000000 (left (ltb b 0x1000000) _ t)) (ltb→lt w 256 (left (ltb w 256) _ (right (ltb b 0x1000000) _ t)))
each (span a b w ∷ rs) (suc k) t = each rs k (right (ltb w 256) _ (right (ltb b 0x1000000) _ t))

pub read_back : (k n : ℕ) → n ≡ row_number (get_or table k beyond) → span (n / 0x100000000) (n / 256 % 0x1000000) (n % 256) ≡ get_or table k beyond
read_back k n e = rw e (each table k table_small)
