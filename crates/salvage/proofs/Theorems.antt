-- RULES 14 in plain sentences. Each statement is about the definitions of specs/ alone, no code, and is proved with nothing assumed;
-- where a proof is long it is in the file cited. The notes are bytes: numbers below 256. `mend` and `done` stand in
-- specs/Mending.antt (`done copy list` is code 0 with that copy and that list), `restore` and `Back` in specs/Restoring.antt, `whole_lines`
-- and `is_utf8` in specs/Lines.antt, `All` in lists/specs/Theorems/All.antt.
use mathlib.Core.Path.{◌≡◌}
use mathlib.Core.Bool.{true}
use mathlib.Core.List.{List, []}
use Prim.Native.Nat.{ℕ, ◌+◌, ◌≤◌, ◌<◌}
use lib.ListN.{length, get_or, take}
use Rattle.lists.specs.Theorems.All.{All}
use Rattle.salvage.specs.Lines.{whole_lines, is_utf8}
use Rattle.salvage.specs.Mending.{Change, done, mend, places_after, bytes_after}
use Rattle.salvage.specs.Restoring.{done as given, listed, restore, expanded}
use Rattle.salvage.proofs.MendedLines.{lines_formed, text_formed}
use Rattle.salvage.proofs.RoundTrip.{mend_means, mended_length, back_exactly, again_same, restore_means, copy_again, slices_hold}

module _ (notes : List ℕ) (space entries : ℕ) (copy : List ℕ) (list : List Change)
    (bytes : (i : ℕ) → get_or notes i 0 < 256)
    (mends : mend notes space entries ≡ done copy list) where
  -- The number of changes is the copy's length less the old length.
  pub the_copy_is_longer_by_the_changes : length copy ≡ length notes + length list
  the_copy_is_longer_by_the_changes = let m = mend_means notes space entries copy list mends in rw (m.copy_is, m.list_is) (mended_length notes bytes).0

  -- From the mended copy and the list the old notes come back exactly.
  pub the_old_notes_come_back : (room : ℕ) → length notes ≤ room → restore copy list room ≡ given notes
  the_old_notes_come_back room h =
      let m = mend_means notes space entries copy list mends in
      rw (m.copy_is, m.list_is) (back_exactly notes bytes room m.limit h)

  -- That list is what is in the two slices that were lent for it, in as many entries as there are changes.
  pub the_slices_hold_the_list : (places bytes' : List ℕ)
      → listed (take (length list) (places_after (done copy list) places)) (take (length list) (bytes_after (done copy list) bytes')) ≡ list
  the_slices_hold_the_list = slices_hold copy list

  -- Every line of the mended copy is well formed by RFC 3629, ..
  pub every_line_is_well_formed : All (λ line. is_utf8 line ≡ true) (whole_lines copy)
  every_line_is_well_formed = let m = mend_means notes space entries copy list mends in rw m.copy_is (lines_formed notes bytes)

  -- .. and so is the copy as a whole, read from its front. So formatting it never gives code 3: `rudignals/proofs/Mended`.
  pub the_copy_is_well_formed : is_utf8 copy ≡ true
  the_copy_is_well_formed = let m = mend_means notes space entries copy list mends in rw m.copy_is (text_formed notes bytes)

  -- Mending again a copy within the limit changes nothing, whatever room the list has.
  pub mending_again_changes_nothing : (space' entries' : ℕ) → length copy ≤ 65536 → length copy ≤ space' → mend copy space' entries' ≡ done copy []
  mending_again_changes_nothing space' entries' h k =
      let m = mend_means notes space entries copy list mends in
      rw m.copy_is (again_same notes bytes space' entries' (rw m.copy_is at h) (rw m.copy_is at k))

-- Nobody loses anything by a wrong list: whatever list restoring has accepted, from the notes that it gave and that list the copy comes
-- back exactly. `expanded` puts each entry's two octets in the place of the byte at its place.
pub a_wrong_list_loses_nothing : (copy : List ℕ) (list : List Change) (room : ℕ) (notes : List ℕ)
    → ((i : ℕ) → (get_or list i (record { place = 0; byte = 0 })).byte < 256)
    → restore copy list room ≡ given notes
    → expanded 0 notes list ≡ copy
a_wrong_list_loses_nothing copy list room notes small h =
    let m = restore_means copy list room notes h in
    rw m.notes_are (copy_again copy list small m.all)
