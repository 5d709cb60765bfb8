-- RULES 14.1: the mended copy of notes, the list of what was changed, and the answers of the mending call.
use Rattle.std.specs.Prelude.{true, false, cond, List, [], ◌∷◌, ◌++◌, map, ℕ, ◌+◌, ltb, length, drop}
use Rattle.lists.specs.Runs.{joined}
use Rattle.lists.specs.Coded.{Coded, coded}
use Rattle.text.specs.Rfc3629.{encode}
use Rattle.salvage.specs.Lines.{whole_lines, is_utf8}

-- In a line that is not well formed, each byte becomes the octets of the code point with its number: two from 80 to FF, and below the
-- byte itself. A well-formed line is left as found.
unfoldable pub mended_line : List ℕ → List ℕ
mended_line line = cond (is_utf8 line) line (joined encode line)

unfoldable pub mended : List ℕ → List ℕ
mended notes = joined mended_line (whole_lines notes)

-- a change: its place in the old notes, and the old byte
pub record Change : Type 0 where
  pub place : ℕ
  pub byte : ℕ

-- the bytes from 80 on of a text that begins at a place
unfoldable pub high_bytes : ℕ → List ℕ → List Change
high_bytes at [] = []
high_bytes at (b ∷ bs) = elim (ltb b 0x80) [ true ↦ high_bytes (at + 1) bs | false ↦ record { place = at; byte = b } ∷ high_bytes (at + 1) bs ]

unfoldable pub line_changes : ℕ → List ℕ → List Change
line_changes at line = cond (is_utf8 line) [] (high_bytes at line)

-- of lines that begin at a place
unfoldable pub changes_from : ℕ → List (List ℕ) → List Change
changes_from at [] = []
changes_from at (line ∷ lines) = line_changes at line ++ changes_from (at + length line) lines

unfoldable pub changes : List ℕ → List Change
changes notes = changes_from 0 (whole_lines notes)

-- ---- the answers

pub data MendAnswer : Type 0 where
  -- the mended copy, and what was changed
  done : List ℕ → List Change → MendAnswer
  -- notes of over 65,536 bytes
  long : MendAnswer
  -- changes that outnumber the list's places: how many they are
  full : ℕ → MendAnswer
  -- no room for the copy: the length needed
  room : ℕ → MendAnswer

-- the answer to notes, with room for so many bytes and so many changes: the first refusal that applies
unfoldable pub mend : List ℕ → ℕ → ℕ → MendAnswer
mend notes bytes entries =
    cond (ltb 65536 (length notes)) long
    (cond (ltb entries (length (changes notes))) (full (length (changes notes)))
    (cond (ltb bytes (length (mended notes))) (room (length (mended notes)))
    (done (mended notes) (changes notes))))

-- the table: code and N
abbrev pub mend_coded : MendAnswer → Coded
mend_coded (done copy list) = coded 0 (length copy)
mend_coded long = coded 2 0
mend_coded (full number) = coded 7 number
mend_coded (room needed) = coded 5 needed

-- a list written over the front of another, of which the rest is unchanged
abbrev pub over : List ℕ → List ℕ → List ℕ
over front old = front ++ drop (length front) old

-- the slices afterwards: on a refusal all are unchanged
unfoldable pub copy_after : MendAnswer → List ℕ → List ℕ
copy_after (done copy list) old = over copy old
copy_after long old = old
copy_after (full number) old = old
copy_after (room needed) old = old

unfoldable pub places_after : MendAnswer → List ℕ → List ℕ
places_after (done copy list) old = over (map (λ c. c.place) list) old
places_after long old = old
places_after (full number) old = old
places_after (room needed) old = old

unfoldable pub bytes_after : MendAnswer → List ℕ → List ℕ
bytes_after (done copy list) old = over (map (λ c. c.byte) list) old
bytes_after long old = old
bytes_after (full number) old = old
bytes_after (room needed) old = old
