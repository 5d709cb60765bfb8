-- The record that holds a line, and its part: by differences instead of sums, and as the first one that a search finds.
use Rattle.std.proofs.Common.{Some, None}
use mathlib.Core.Path.{◌≡◌, refl}
use mathlib.Core.Bool.{Bool, true, false, cond}
use mathlib.Core.List.{List, [], ◌∷◌}
use Prim.Native.Nat.{ℕ, ◌+◌, ◌-◌, ◌≤◌, ◌<◌}
use native.Mathlib.Omega.{arith}
use lib.Dec.{ltb}
use lib.ListN.{length, take}
use borrow.Author.Tests.{ltb-true, ltb-false, lt-ltb, le-ltb, le-leb, lt-leb}
use Rattle.index.specs.declared.Record.{Record}
use Rattle.index.specs.Lookup.{holds, part_in, part_under, lookup}
use Rattle.index.specs.Cited.Lists.{no_record}
use Rattle.std.specs.List.{find}
use Rattle.std.specs.Option.{option_and_then}

-- ---- one record

-- by a difference instead of the sum
module _ (r : Record) (line : ℕ) where
  pub holds_early : line < r.first → holds line r ≡ false
  unfolding holds
  holds_early h = rw (lt-leb r.first line h)

  pub holds_late : r.first ≤ line → holds line r ≡ ltb (line - r.first) r.count
  unfolding holds
  holds_late h = rw (le-leb r.first line h) (go (ltb (line - r.first) r.count) refl)
    where
      go : (b : Bool) → ltb (line - r.first) r.count ≡ b → ltb line (r.first + r.count) ≡ b
      go true e = lt-ltb line (r.first + r.count) (omega (arith, h, ltb-true (line - r.first) r.count e))
      go false e = le-ltb line (r.first + r.count) (omega (arith, h, ltb-false (line - r.first) r.count e))

pub none_holds : (line : ℕ) → holds line no_record ≡ false
unfolding holds
none_holds line = rw (le-leb 0 line (omega arith), le-ltb line 0 (omega arith))

module _ (r : Record) (size : ℕ) where
  pub part_past : size < r.place → None ≡ part_in size r
  unfolding part_in
  part_past h = rw (lt-leb (r.place + r.length) size (omega (arith, h)))

  pub part_long : r.place ≤ size → size - r.place < r.length → None ≡ part_in size r
  unfolding part_in
  part_long h l = rw (lt-leb (r.place + r.length) size (omega (arith, h, l)))

  pub part_within : r.place ≤ size → r.length ≤ size - r.place → Some (record { place = r.place; length = r.length }) ≡ part_in size r
  unfolding part_in
  part_within h l = rw (le-leb (r.place + r.length) size (omega (arith, h, l)))

-- ---- the list

part_found : (size line : ℕ) (rs : List Record) → part_under size line rs ≡ option_and_then (part_in size) (find (holds line) rs)
unfolding part_under
part_found size line [] = refl
part_found size line (r ∷ rs) = go (holds line r) (part_found size line rs)
  where
    go : (b : Bool) → part_under size line rs ≡ option_and_then (part_in size) (find (holds line) rs)
        → elim b [ true ↦ part_in size r | false ↦ part_under size line rs ] ≡ option_and_then (part_in size) (cond b (Some r) (find (holds line) rs))
    go true e = refl
    go false e = e

module _ (index : List Record) (filled size line : ℕ) where
  pub lookup_past : length index < filled → lookup index filled size line ≡ None
  unfolding lookup
  lookup_past h = rw (lt-leb filled (length index) h)

  pub lookup_within : filled ≤ length index → lookup index filled size line ≡ option_and_then (part_in size) (find (holds line) (take filled index))
  unfolding lookup
  lookup_within h = rw (le-leb filled (length index) h, part_found size line (take filled index))
