-- A reader's law: the search's early end changes nothing. The width is that of the range that holds the character, wherever it stands
-- in the table, and 1 where none does.
use mathlib.Core.Path.{◌≡◌, refl}
use mathlib.Core.Bool.{Bool, true, false, cond, ◌&&◌}
use mathlib.Core.List.{List, [], ◌∷◌}
use Prim.Native.Nat.{ℕ, suc, ◌<◌}
use native.Mathlib.Omega.{arith}
use lib.Dec.{T, leb, ltb}
use borrow.Author.Tests.{ltb-true, ltb-false, le-leb, lt-leb}
use Rattle.widths.specs.Ranges.{Range, span, width_in, ascending}
use Rattle.widths.specs.Table.{table}
use Rattle.widths.specs.Widths.{width_of, table_ascends}
use Rattle.widths.proofs.Ranges.{some, rest, from}

-- each range is looked at
unfoldable pub plainly : List Range → ℕ → ℕ
plainly [] c = 1
plainly (span a b w ∷ rs) c = cond (leb a c && leb c b) w (plainly rs c)

none_before : (n : ℕ) (rs : List Range) (c : ℕ) → T (ascending n rs) → c < n → plainly rs c ≡ 1
unfolding plainly
none_before n [] c up h = refl
none_before n (span a b w ∷ rs) c up h =
    let f = from n a b w rs up in
    let s = some n a b w rs up in
    rw (lt-leb a c (omega arith)) (none_before (suc b) rs c (rest n a b w rs up) (omega arith))

same : (n : ℕ) (rs : List Range) (c : ℕ) → T (ascending n rs) → width_in rs c ≡ plainly rs c
unfolding width_in plainly
same n [] c up = refl
same n (span a b w ∷ rs) c up = go (same (suc b) rs c (rest n a b w rs up)) (ltb c a) refl (leb c b) refl
  where
    go : width_in rs c ≡ plainly rs c → (s : Bool) → ltb c a ≡ s → (t : Bool) → leb c b ≡ t → width_in (span a b w ∷ rs) c ≡ plainly (span a b w ∷ rs) c
    go i true e t f =
        let l = ltb-true c a e in
        let s = some n a b w rs up in
        rw (e, width_in, lt-leb a c l, none_before (suc b) rs c (rest n a b w rs up) (omega arith))
    go i false e true f = rw (e, width_in, f, le-leb a c (ltb-false c a e))
    go i false e false f = rw (e, width_in, f, le-leb a c (ltb-false c a e)) i

pub the_width_of_the_range_that_holds_it : (c : ℕ) → width_of c ≡ plainly table c
unfolding width_of
the_width_of_the_range_that_holds_it c = same 0 table c table_ascends
