-- Records read off marks: that none runs past the marks, and what one more is, in the list that a loop stores them to.
use mathlib.Core.Path.{◌≡◌, refl, sym, ap, ◌∙◌}
use mathlib.Core.Bool.{Bool, true, false}
use mathlib.Core.List.{List, [], ◌∷◌, ◌++◌, append-nil}
use Prim.Native.Nat.{ℕ, zero, suc, ◌+◌, ◌*◌, ◌^◌, ◌≤◌, ◌<◌, min}
use native.Mathlib.Nat.{not-suc-le-zero, le_of_suc-le-suc}
use native.Mathlib.Omega.{arith}
use lib.Dec.{leb}
use lib.ListN.{length, set, take, drop, length-take, length-drop, drop_of_length-le}
use lib.Seq.{take_all}
use borrow.Author.Tests.{leb-true, leb-false}
use Rattle.marks.specs.Cited.Marks.{marks_in, to_mark}
use Rattle.marks.proofs.Laws.{to_mark_within, length_marks}
use Rattle.index.specs.declared.Record.{Record}
use Rattle.index.specs.Cited.Reading.{front, behind, record_after, read_from}

-- ---- the numbers that may hold marks

pub front_is : (table : List ℕ) (end : ℕ) → end ≡ min (length table) 65536 → take end table ≡ front table
front_is table end e = go (leb (length table) 65536) refl
  where
    go : (b : Bool) → leb (length table) 65536 ≡ b → take end table ≡ front table
    go true t = let h = leb-true (length table) 65536 t in take_all end table (omega (arith, e, h)) ∙ sym (take_all 65536 table h)
    go false t = let h = leb-false (length table) 65536 t in let k : end ≡ 65536 = omega (arith, e, h) in ap (λ (n : ℕ). take n table) k

pub front_few : (table : List ℕ) → length (front table) ≤ 2 ^ 16
front_few table = let l = length-take 65536 table in omega (arith, l)

-- ---- one record

-- from the gaps: its length, then its count
pub after_is : (marks : List Bool) (r : Record) (l c : ℕ) → l ≡ to_mark (drop (behind r) marks) → c ≡ to_mark (drop (behind r + l) marks)
    → record { place = r.place + r.length; length = l; first = r.first + r.count; count = c } ≡ record_after marks r
unfolding record_after
after_is marks r l c e d = rw (d, e)

module _ (table : List ℕ) where
  -- the next mark stands within the table
  pub gap_within : (at g : ℕ) → at ≤ 32 * length table → g ≡ to_mark (drop at (marks_in table)) → at + g ≤ 32 * length table
  gap_within at g h e = let a = to_mark_within (drop at (marks_in table)) in let b = length-drop at (marks_in table) in let c = length_marks table in omega (arith, h, e, a, b, c)

  after_within : (r : Record) → behind r ≤ 32 * length table → behind (record_after (marks_in table) r) ≤ 32 * length table
  unfolding record_after
  after_within r h = let a = gap_within (behind r) _ h refl in let b = gap_within (behind r + to_mark (drop (behind r) (marks_in table))) _ a refl in omega (arith, b)

-- ---- n records

-- the last of n records after a record: that record itself where n is 0
abbrev pub last_read : List Bool → ℕ → Record → Record
last_read marks zero r = r
last_read marks (suc n) r = last_read marks n (record_after marks r)

pub last_within : (table : List ℕ) (n : ℕ) (r : Record) → behind r ≤ 32 * length table → behind (last_read (marks_in table) n r) ≤ 32 * length table
last_within table zero r h = h
last_within table (suc n) r h = last_within table n (record_after (marks_in table) r) (after_within table r h)

module _ (marks : List Bool) where
  pub last_more : (n : ℕ) (r : Record) → record_after marks (last_read marks n r) ≡ last_read marks (suc n) r
  last_more zero r = refl
  last_more (suc n) r = last_more n (record_after marks r)

  -- a list with n records read in the place of its first n
  abbrev pub read_to : ℕ → Record → List Record → List Record
  read_to n r ys = read_from marks n r ++ drop n ys

  pub read_more : (n : ℕ) (r : Record) (ys : List Record) → n < length ys → set (read_to n r ys) n (record_after marks (last_read marks n r)) ≡ read_to (suc n) r ys
  unfolding read_from
  read_more n r [] l = absurd (not-suc-le-zero l)
  read_more zero r (y ∷ ys) l = refl
  read_more (suc n) r (y ∷ ys) l = ap (λ (t : List Record). record_after marks r ∷ t) (read_more n (record_after marks r) ys (le_of_suc-le-suc l))

  pub read_all : (n : ℕ) (r : Record) (ys : List Record) → length ys ≤ n → read_to n r ys ≡ read_from marks n r
  read_all n r ys h = ap (λ (t : List Record). read_from marks n r ++ t) (drop_of_length-le ys h) ∙ append-nil (read_from marks n r)
