-- The columns of bytes: those that begin a character.
use mathlib.Core.Path.{◌≡◌, refl, sym, ap, ◌∙◌}
use mathlib.Core.Bool.{Bool, true, false, cond}
use mathlib.Core.List.{List, [], ◌∷◌, ◌++◌}
use Prim.Native.Nat.{ℕ, suc, ◌+◌, ◌-◌, ◌/◌, ◌≤◌, ◌<◌}
use native.Mathlib.Omega.{arith}
use lib.Dec.{leb, ltb}
use lib.ListN.{length, get_or}
use lib.Seq.{slice, slice_empty, slice-cons, length-slice}
use borrow.Author.Tests.{eqb-true, ltb-true, ne_eqb}
use Rattle.lists.specs.Runs.{every}
use Rattle.lists.proofs.Parts.{every_cons}
use Rattle.lists.proofs.Joins.{slice_join}
use Rattle.text.specs.Cited.Joins.{goes_on}
use Rattle.regular.specs.Cited.Regular.{is_space, is_regular, column_of, columns, spelled}
use Rattle.regular.specs.Cited.Places.{columns_in, Reaches}
use Rattle.regular.proofs.Stretch.{and_true}
use Rattle.regular.proofs.Spelling.{spelled_begins}

pub column_most : (b : ℕ) → column_of b ≤ 1
column_most b = go (goes_on b)
  where
    go : (t : Bool) → cond t 0 1 ≤ 1
    go true = omega arith
    go false = omega arith

-- what is a column begins a character
pub column_begins : (b : ℕ) → 0 < column_of b → goes_on b ≡ false
column_begins b h = go (goes_on b) h
  where
    go : (t : Bool) → 0 < cond t 0 1 → t ≡ false
    go true h = absurd (omega (arith, h))
    go false h = refl

pub columns_append : (xs ys : List ℕ) → columns (xs ++ ys) ≡ columns xs + columns ys
unfolding columns
columns_append [] ys = omega arith
columns_append (x ∷ xs) ys = let h = columns_append xs ys in omega (arith, h)

columns_most : (xs : List ℕ) → columns xs ≤ length xs
unfolding columns
columns_most [] = omega arith
columns_most (x ∷ xs) = omega (arith, columns_most xs, column_most x)

pub columns_spaces : (sp : List ℕ) → every is_space sp ≡ true → columns sp ≡ length sp
unfolding columns
columns_spaces [] h = refl
columns_spaces (x ∷ sp) h =
    let t = and_true _ _ (sym (every_cons is_space x sp) ∙ h) in
    rw (eqb-true x 32 t.0) (let k = columns_spaces sp t.1 in omega (arith, k))

pub columns_regular : (xs : List ℕ) → every is_regular xs ≡ true → columns xs ≡ length xs
unfolding columns
columns_regular [] h = refl
columns_regular (x ∷ xs) h =
    let t = and_true _ _ (sym (every_cons is_regular x xs) ∙ h) in
    let k = ltb-true x 128 (and_true (leb 32 x) (ltb x 128) t.0).1 in
    rw (ne_eqb (x / 64) 2 (λ q. omega (arith, q, k))) (let m = columns_regular xs t.1 in omega (arith, m))

-- ---- by places

module _ (s : List ℕ) where
  pub columns_join : (from mid to : ℕ) → from ≤ mid → mid ≤ to → to ≤ length s → columns_in s from to ≡ columns_in s from mid + columns_in s mid to
  columns_join from mid to a b w = ap columns (sym (slice_join from mid to s a b w)) ∙ columns_append (slice from mid s) (slice mid to s)

  pub columns_none : (from : ℕ) → columns_in s from from ≡ 0
  unfolding columns
  columns_none from = rw (slice_empty from s)

  pub columns_one : (i : ℕ) → i < length s → columns_in s i (i + 1) ≡ column_of (get_or s i 0)
  unfolding columns
  columns_one i l =
      let n : i + 1 ≡ suc i = omega arith in
      rw (slice-cons i (i + 1) s 0 (omega arith) (omega arith), n, slice_empty (suc i) s) (let z : column_of (get_or s i 0) + 0 ≡ column_of (get_or s i 0) = omega arith in z)

  pub columns_step : (from i next : ℕ) → next ≡ i + 1 → from ≤ i → i < length s → columns_in s from next ≡ columns_in s from i + column_of (get_or s i 0)
  columns_step from i next e a l = rw e (columns_join from i (i + 1) a (omega arith) (omega arith) ∙ ap (λ (n : ℕ). columns_in s from i + n) (columns_one i l))

  pub columns_size : (from to : ℕ) → to ≤ length s → columns_in s from to ≤ to - from
  columns_size from to w = let n = length-slice from to s w in omega (arith, columns_most (slice from to s), n)

  -- a stretch begins with a character
  pub columns_some : (p end e : ℕ) → p < end → end ≤ e → e ≤ length s → spelled false (slice p e s) ≡ true → 0 < columns_in s p end
  columns_some p end e l on w h =
      let c = spelled_begins (get_or s p 0) (slice (suc p) e s) (rw (slice-cons p e s 0 (omega arith) (omega arith)) at h) in
      let o : columns_in s p (p + 1) ≡ 1 = columns_one p (omega arith) ∙ rw c in
      omega (arith, columns_join p (p + 1) end (omega arith) (omega arith) (omega arith), o)

  -- where each byte is a column, so it is up to any place
  pub columns_plain : (p m e : ℕ) → p ≤ m → m ≤ e → e ≤ length s → columns_in s p e ≡ e - p → columns_in s p m ≡ m - p
  columns_plain p m e a b w h = omega (arith, columns_join p m e a b w, columns_size p m (omega arith), columns_size m e w)

  pub reaches_plain : (p e room : ℕ) → e ≤ length s → columns_in s p e ≡ e - p → room < e - p → Reaches s p e room (p + room)
  reaches_plain p e room w h l =
      let full = columns_plain p (p + room) e (omega arith) (omega arith) w h in
      let more = columns_plain p (p + room + 1) e (omega arith) (omega arith) w h in
      let step = columns_step p (p + room) (p + room + 1) refl (omega arith) (omega arith) in
      record { on = omega arith; most = omega arith; full = omega arith; begins = column_begins (get_or s (p + room) 0) (omega arith) }
