-- The answers by the tests that lead to them.
use Rattle.std.proofs.Common.{Ok, Err}
use mathlib.Core.Path.{◌≡◌, refl, sym, ap, ◌∙◌}
use mathlib.Core.List.{List, map}
use Prim.Native.Nat.{ℕ, ◌+◌, ◌≤◌, ◌<◌, min}
use native.Mathlib.Omega.{arith}
use native.Mathlib.Nat.{zero-add}
use lib.ListN.{length, length-map}
use lib.Seq.{sets, sets-eq}
use borrow.Author.Tests.{lt-ltb, le-ltb}
use Rattle.lists.specs.Coded.{numbered, result_coded}
use Rattle.salvage.specs.Mending.{Change, mended, changes, MendAnswer, done, long, full, room, mend, mend_coded, over, copy_after, places_after, bytes_after}
use Rattle.salvage.specs.Restoring.{Back, done as given, long as longCopy, stray, room as roomBack, belonging, restored, restore, restore_coded, notes_after}
use Rattle.salvage.specs.Cited.Steps.{told, told_back, unmended_coded, unrestored_coded, Mends, Restores, Counted}
use Rattle.salvage.specs.declared.Unmended.TheVariants.{Long, Full, Room}
use Rattle.salvage.specs.declared.Unrestored.TheVariants.{Long as LongCopy, Stray, Room as RoomBack}

-- stores from the front on
over_front : (xs old : List ℕ) → length xs ≤ length old → sets old 0 xs ≡ over xs old
over_front xs old h = sets-eq xs old 0 (omega arith) ∙ rw (zero-add (length xs))

-- ---- the numbers

pub number_told : (a : MendAnswer) → numbered (result_coded unmended_coded (told a)) ≡ numbered (mend_coded a)
number_told (done copy list) = refl
number_told long = refl
number_told (full number) = refl
number_told (room needed) = refl

pub number_told_back : (a : Back) → numbered (result_coded unrestored_coded (told_back a)) ≡ numbered (restore_coded a)
number_told_back (given notes) = refl
number_told_back longCopy = refl
number_told_back (stray entry) = refl
number_told_back (roomBack needed) = refl

-- ---- mending

module _ (notes : List ℕ) (space entries : ℕ) where
  pub mend_long : 65536 < length notes → mend notes space entries ≡ long
  unfolding mend
  mend_long h = rw (lt-ltb 65536 (length notes) h)

  module _ (h : length notes ≤ 65536) where
    pub mend_full : entries < length (changes notes) → mend notes space entries ≡ full (length (changes notes))
    unfolding mend
    mend_full k = rw (le-ltb 65536 (length notes) h, lt-ltb entries (length (changes notes)) k)

    module _ (k : length (changes notes) ≤ entries) where
      pub mend_room : space < length (mended notes) → mend notes space entries ≡ room (length (mended notes))
      unfolding mend
      mend_room l = rw (le-ltb 65536 (length notes) h, le-ltb entries (length (changes notes)) k, lt-ltb space (length (mended notes)) l)

      pub mend_done : length (mended notes) ≤ space → mend notes space entries ≡ done (mended notes) (changes notes)
      unfolding mend
      mend_done l = rw (le-ltb 65536 (length notes) h, le-ltb entries (length (changes notes)) k, le-ltb space (length (mended notes)) l)

module _ (notes copy places bytes : List ℕ) where
  pub mends_long : 65536 < length notes → Mends (mend notes (length copy) (min (length places) (length bytes))) copy places bytes (Err Long) copy places bytes
  unfolding copy_after places_after bytes_after numbered
  mends_long h = rw (mend_long notes (length copy) (min (length places) (length bytes)) h) (record { is = refl; copied = refl; placed = refl; kept = refl; small = omega arith })

  module _ (r : ℕ) (h : length notes ≤ 65536) (q : Counted notes r) where
    pub mends_full : min (length places) (length bytes) < r → Mends (mend notes (length copy) (min (length places) (length bytes))) copy places bytes (Err (Full r)) copy places bytes
    unfolding copy_after places_after bytes_after numbered
    mends_full k =
        rw (mend_full notes (length copy) (min (length places) (length bytes)) h (rw q.count k), q.count)
        (record { is = refl; copied = refl; placed = refl; kept = refl; small = omega (arith, q.few) })

    module _ (k : r ≤ min (length places) (length bytes)) where
      pub mends_room : length copy < length notes + r
          → Mends (mend notes (length copy) (min (length places) (length bytes))) copy places bytes (Err (Room (length notes + r))) copy places bytes
      unfolding copy_after places_after bytes_after numbered
      mends_room l =
          rw (mend_room notes (length copy) (min (length places) (length bytes)) h (rw q.count k) (rw q.mended l), q.mended)
          (record { is = refl; copied = refl; placed = refl; kept = refl; small = omega (arith, q.few) })

      module _ (l : length notes + r ≤ length copy) where
        pub mends_done : {copy' places' bytes' : List ℕ}
            → copy' ≡ sets copy 0 (mended notes) → places' ≡ sets places 0 (map (λ c. c.place) (changes notes)) → bytes' ≡ sets bytes 0 (map (λ c. c.byte) (changes notes))
            → Mends (mend notes (length copy) (min (length places) (length bytes))) copy places bytes (Ok (length notes + r)) copy' places' bytes'
        unfolding copy_after places_after bytes_after numbered
        mends_done a b d =
            rw (mend_done notes (length copy) (min (length places) (length bytes)) h (rw q.count k) (rw q.mended l))
            (record {
              is = ap Ok (sym q.mended);
              copied = a ∙ over_front (mended notes) copy (rw q.mended l);
              placed = b ∙ over_front (map (λ c. c.place) (changes notes)) places (rw (length-map (changes notes) (λ c. c.place), q.count) (omega arith));
              kept = d ∙ over_front (map (λ c. c.byte) (changes notes)) bytes (rw (length-map (changes notes) (λ c. c.byte), q.count) (omega arith));
              small = omega (arith, q.few);
            })

-- ---- restoring

module _ (copy : List ℕ) (list : List Change) (space : ℕ) where
  pub restore_long : 131072 < length copy → restore copy list space ≡ longCopy
  unfolding restore
  restore_long h = rw (lt-ltb 131072 (length copy) h)

  module _ (h : length copy ≤ 131072) where
    pub restore_stray : belonging 0 copy list < length list → restore copy list space ≡ stray (belonging 0 copy list)
    unfolding restore
    restore_stray k = rw (le-ltb 131072 (length copy) h, lt-ltb (belonging 0 copy list) (length list) k)

    module _ (k : length list ≤ belonging 0 copy list) where
      pub restore_room : space < length (restored 0 copy list) → restore copy list space ≡ roomBack (length (restored 0 copy list))
      unfolding restore
      restore_room l = rw (le-ltb 131072 (length copy) h, le-ltb (belonging 0 copy list) (length list) k, lt-ltb space (length (restored 0 copy list)) l)

      pub restore_done : length (restored 0 copy list) ≤ space → restore copy list space ≡ given (restored 0 copy list)
      unfolding restore
      restore_done l = rw (le-ltb 131072 (length copy) h, le-ltb (belonging 0 copy list) (length list) k, le-ltb space (length (restored 0 copy list)) l)

module _ (copy : List ℕ) (list : List Change) (notes : List ℕ) where
  pub restores_long : 131072 < length copy → Restores (restore copy list (length notes)) notes (Err LongCopy) notes
  unfolding notes_after numbered
  restores_long h = rw (restore_long copy list (length notes) h) (record { is = refl; back = refl; small = omega arith })

  module _ (h : length copy ≤ 131072) where
    pub restores_stray : (r : ℕ) → r ≡ belonging 0 copy list → r ≤ length copy → r < length list → Restores (restore copy list (length notes)) notes (Err (Stray r)) notes
    unfolding notes_after numbered
    restores_stray r e b k =
        rw (restore_stray copy list (length notes) h (omega arith), ← e)
        (record { is = refl; back = refl; small = omega arith })

    module _ (n : ℕ) (k : length list ≤ belonging 0 copy list) (e : length (restored 0 copy list) ≡ n) (b : n ≤ length copy) where
      pub restores_room : length notes < n → Restores (restore copy list (length notes)) notes (Err (RoomBack n)) notes
      unfolding notes_after numbered
      restores_room l = rw (restore_room copy list (length notes) h k (rw e l), e) (record { is = refl; back = refl; small = omega arith })

      pub restores_done : {notes' : List ℕ} → n ≤ length notes → notes' ≡ sets notes 0 (restored 0 copy list) → Restores (restore copy list (length notes)) notes (Ok n) notes'
      unfolding notes_after numbered
      restores_done l a =
          rw (restore_done copy list (length notes) h k (rw e l))
          (record { is = ap Ok (sym e); back = a ∙ over_front (restored 0 copy list) notes (rw e l); small = omega arith })
