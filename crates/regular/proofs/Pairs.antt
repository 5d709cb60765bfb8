-- Regular bytes and letters of two bytes, one more at a time.
use mathlib.Core.Path.{◌≡◌, refl}
use mathlib.Core.Bool.{true, false}
use mathlib.Core.List.{List}
use Prim.Native.Nat.{ℕ, suc, ◌+◌, ◌-◌, ◌/◌, ◌≤◌, ◌<◌}
use native.Mathlib.Omega.{arith}
use lib.ListN.{length, get_or, take}
use lib.Seq.{slice, length-slice, slice_empty, slice-cons, get_or-take, length-take-le}
use borrow.Author.Tests.{le-leb, lt-ltb, le-ltb, ne_eqb, eq-eqb}
use Rattle.lists.specs.Runs.{every}
use Rattle.lists.proofs.Joins.{slice_join}
use Rattle.text.specs.Cited.Places.{letter_at}
use Rattle.text.proofs.Letters.{Letter, letter_is}
use Rattle.regular.specs.Cited.Regular.{is_regular, spelled, column_of}
use Rattle.regular.specs.declared.Letters.{Letters}
use Rattle.regular.specs.Cited.Places.{columns_in, BeforeSpaces, RegularTo, SpelledTo}
use Rattle.regular.proofs.Spelling.{spelled_append, spelled_regular}
use Rattle.regular.proofs.Columns.{columns_spaces, columns_regular, columns_none, columns_join, columns_step}
use Rattle.regular.proofs.Parts.{part_all, part_spaces}

module _ (s : List ℕ) (from end : ℕ) (within : end ≤ length s) where
  pub letters_first : from ≤ end → SpelledTo s from end (record { end = from; count = 0 })
  unfolding spelled
  letters_first on = record { on = omega arith; most = on; all = rw (slice_empty from s); count = omega (arith, columns_none s from) }

  module _ (i n : ℕ) (so : SpelledTo s from end (record { end = i; count = n })) where
    more : (to : ℕ) → i ≤ to → to ≤ end → spelled false (slice i to s) ≡ true → spelled false (slice from to s) ≡ true
    more to a b h = rw (slice_join from i to s so.on a (omega (arith, b, within))) at (spelled_append false (slice from i s) (slice i to s) so.all h)

    pub letters_byte : i < end → 32 ≤ get_or s i 0 → get_or s i 0 < 128 → SpelledTo s from end (record { end = i + 1; count = n })
    unfolding spelled
    letters_byte l h k =
        let e : i + 1 ≡ suc i = omega arith in
        let o : column_of (get_or s i 0) ≡ 1 = rw (ne_eqb (get_or s i 0 / 64) 2 (λ q. omega (arith, q, k))) in
        record {
          on = omega (arith, so.on);
          most = omega arith;
          all = more (i + 1) (omega arith) (omega arith) (rw (slice-cons i (i + 1) s 0 (omega arith) (omega (arith, l, within)), e, slice_empty (suc i) s, le-leb 32 (get_or s i 0) h, lt-ltb (get_or s i 0) 128 k));
          count = omega (arith, so.on, so.count, o, columns_step s from i (i + 1) refl so.on (omega (arith, l, within)));
        }

    pub letters_pair : letter_at (take end s) i ≡ true → SpelledTo s from end (record { end = i + 2; count = n + 1 })
    unfolding spelled
    letters_pair is = pair (letter_is (take end s) i is)
      where
        pair : Letter (take end s) i → SpelledTo s from end (record { end = i + 2; count = n + 1 })
        pair l =
            let z = length-take-le end s within in
            let w : i + 1 < end = omega (arith, l.within, z) in
            let a : get_or (take end s) i 0 ≡ get_or s i 0 = get_or-take end s i 0 (omega arith) in
            let b : get_or (take end s) (i + 1) 0 ≡ get_or s (i + 1) 0 = get_or-take end s (i + 1) 0 w in
            let least : 0xC3 ≤ get_or s i 0 = rw a at l.least in
            let most : get_or s i 0 ≤ 0xD1 = rw a at l.most in
            let second : get_or s (i + 1) 0 / 64 ≡ 2 = rw b at l.second in
            let first : column_of (get_or s i 0) ≡ 1 = rw (ne_eqb (get_or s i 0 / 64) 2 (λ q. omega (arith, q, least))) in
            let other : column_of (get_or s (i + 1) 0) ≡ 0 = rw (eq-eqb (get_or s (i + 1) 0 / 64) 2 second) in
            let d : i + 1 ≡ suc i = omega arith in
            let e : i + 2 ≡ suc (suc i) = omega arith in
            record {
              on = omega (arith, so.on);
              most = omega arith;
              all = more (i + 2) (omega arith) (omega arith)
                  (rw (
                    slice-cons i (i + 2) s 0 (omega arith) (omega (arith, w, within)),
                    slice-cons (suc i) (i + 2) s 0 (omega arith) (omega (arith, w, within)),
                    e,
                    slice_empty (suc (suc i)) s,
                    ← d,
                    le-leb 32 (get_or s i 0) (omega (arith, least)),
                    le-ltb (get_or s i 0) 128 (omega (arith, least)),
                    le-leb 0xC3 (get_or s i 0) least,
                    le-leb (get_or s i 0) 0xD1 most,
                    ne_eqb (get_or s i 0 / 2) 0x66 (λ q. l.no_accent (rw a q)),
                    eq-eqb (get_or s (i + 1) 0 / 64) 2 second,
                  ));
              count = omega (arith, so.on, so.count, first, other, columns_step s from i (i + 1) refl so.on (omega (arith, w, within)), columns_step s from (i + 1) (i + 2) (omega arith) (omega (arith, so.on)) (omega (arith, w, within)));
            }

-- ---- after regular bytes, without the spaces at the end

module _ (s : List ℕ) (from at next : ℕ) (within : next ≤ length s) (regular : RegularTo s from next at) (r : Letters) (letters : SpelledTo s at next r) where
  plain : every is_regular (slice from at s) ≡ true
  plain = part_all s from at (omega (arith, regular.most, within)) is_regular regular.all

  pub row_on : from ≤ r.end
  row_on = omega (arith, regular.on, letters.on)

  pub row_spelled : spelled false (slice from r.end s) ≡ true
  row_spelled =
      rw (slice_join from at r.end s regular.on letters.on (omega (arith, letters.most, within))) at
      (spelled_append false (slice from at s) (slice at r.end s) (spelled_regular (slice from at s) plain) letters.all)

  pub row_columns : (e : ℕ) → BeforeSpaces s from r.end e → columns_in s from e + r.count ≡ e - from
  row_columns e before =
      let w : r.end ≤ length s = omega (arith, letters.most, within) in
      let a = columns_join s from at r.end regular.on letters.on w in
      let b = columns_join s from e r.end before.on before.most w in
      let c = columns_regular (slice from at s) plain in
      let d = length-slice from at s (omega (arith, letters.on, w)) in
      let f = columns_spaces (slice e r.end s) (part_spaces s e r.end w before.spaces) in
      let g = length-slice e r.end s w in
      omega (arith, a, b, c, d, f, g, letters.count, letters.on, regular.on, before.on, before.most)
