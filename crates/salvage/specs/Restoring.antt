-- The way back from a mended copy and its list to the old notes: which lists belong to a copy, what comes back, and the answers.
use Rattle.std.specs.Prelude.{Bool, true, false, cond, ◌&&◌, List, [], ◌∷◌, ◌++◌, ℕ, suc, ◌+◌, ◌-◌, ltb, leb, length, take, drop}
use Rattle.lists.specs.Runs.{begins}
use Rattle.lists.specs.Coded.{Coded, coded}
use Rattle.text.specs.Rfc3629.{encode}
use Rattle.salvage.specs.Mending.{Change, over}

-- a list in two slices has as many entries as the shorter
unfoldable pub listed : List ℕ → List ℕ → List Change
listed [] bytes = []
listed (p ∷ places) [] = []
listed (p ∷ places) (b ∷ bytes) = record { place = p; byte = b } ∷ listed places bytes

-- Below, copy is what is left of the copy from the old place at on.

-- An entry belongs to it: its place is not before that one, its byte is from 80 on, and the byte's two octets stand there.
unfoldable pub belongs : ℕ → List ℕ → Change → Bool
belongs at copy e = leb at e.place && (leb 0x80 e.byte && begins (encode e.byte) (drop (e.place - at) copy))

-- how many entries belong to it, up to the first that does not
unfoldable pub belonging : ℕ → List ℕ → List Change → ℕ
belonging at copy [] = 0
belonging at copy (e ∷ es) = elim (belongs at copy e) [ true ↦ suc (belonging (e.place + 1) (drop (e.place - at + 2) copy) es) | false ↦ 0 ]

-- the old text: each entry's byte in the place of its two octets
unfoldable pub restored : ℕ → List ℕ → List Change → List ℕ
restored at copy [] = copy
restored at copy (e ∷ es) = take (e.place - at) copy ++ (e.byte ∷ restored (e.place + 1) (drop (e.place - at + 2) copy) es)

-- ---- the answers

pub data Back : Type 0 where
  -- the old notes
  done : List ℕ → Back
  -- a copy of over 131,072 bytes: no mended copy is longer
  long : Back
  -- the first entry that does not belong to the copy, counted from 0
  stray : ℕ → Back
  -- no room for the notes: the length needed
  room : ℕ → Back

-- the answer to a copy and a list, with room for so many bytes: the first refusal that applies
unfoldable pub restore : List ℕ → List Change → ℕ → Back
restore copy list bytes =
    cond (ltb 131072 (length copy)) long
    (cond (ltb (belonging 0 copy list) (length list)) (stray (belonging 0 copy list))
    (cond (ltb bytes (length (restored 0 copy list))) (room (length (restored 0 copy list)))
    (done (restored 0 copy list))))

-- the table: code and N
abbrev pub restore_coded : Back → Coded
restore_coded (done notes) = coded 0 (length notes)
restore_coded long = coded 2 0
restore_coded (stray entry) = coded 11 entry
restore_coded (room needed) = coded 5 needed

-- the slice afterwards: on a refusal it is unchanged
unfoldable pub notes_after : Back → List ℕ → List ℕ
notes_after (done notes) old = over notes old
notes_after long old = old
notes_after (stray entry) old = old
notes_after (room needed) old = old

-- The way there again, from any list: each entry's two octets in the place of the byte at its place.
unfoldable pub expanded : ℕ → List ℕ → List Change → List ℕ
expanded at notes [] = notes
expanded at notes (e ∷ es) = take (e.place - at) notes ++ (encode e.byte ++ expanded (e.place + 1) (drop (e.place - at + 1) notes) es)
