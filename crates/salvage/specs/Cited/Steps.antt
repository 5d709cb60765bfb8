-- What the functions of salvage answer for on the way: lines and runs at a place, counts, and what is written so far. No part of RULES 14.
use Rattle.std.specs.Prelude.{◌≡◌, Bool, true, List, ◌∷◌, map, ℕ, ◌+◌, ◌-◌, ◌^◌, ◌≤◌, ◌<◌, length, get_or, take, drop, Result, Ok, Err}
use Rattle.std.proofs.lemmas.List.Edits.{sets}
use Rattle.lists.specs.Runs.{joined}
use Rattle.lists.specs.Coded.{Coded, coded, numbered, result_coded}
use Rattle.text.specs.Rfc3629.{encode}
use Rattle.salvage.specs.Lines.{whole_lines}
use Rattle.salvage.specs.Mending.{Change, mended_line, mended, high_bytes, line_changes, changes, MendAnswer, done, long, full, room, copy_after, places_after, bytes_after}
use Rattle.salvage.specs.Restoring.{Back, done as given, long as longCopy, stray, room as roomBack, belonging, restored, notes_after}
use Rattle.salvage.specs.declared.Unmended.{Unmended}
use Rattle.salvage.specs.declared.Unmended.TheVariants.{Long, Full, Room}
use Rattle.salvage.specs.declared.Unrestored.{Unrestored}
use Rattle.salvage.specs.declared.Unrestored.TheVariants.{Long as LongCopy, Stray, Room as RoomBack}

-- ---- the answers in code: without the bytes, which are in the slices

abbrev pub told : MendAnswer → Result ℕ Unmended
told (done copy list) = Ok (length copy)
told long = Err Long
told (full number) = Err (Full number)
told (room needed) = Err (Room needed)

abbrev pub told_back : Back → Result ℕ Unrestored
told_back (given notes) = Ok (length notes)
told_back longCopy = Err LongCopy
told_back (stray entry) = Err (Stray entry)
told_back (roomBack needed) = Err (RoomBack needed)

-- code and N of a refusal
abbrev pub unmended_coded : Unmended → Coded
unmended_coded Long = coded 2 0
unmended_coded (Full number) = coded 7 number
unmended_coded (Room needed) = coded 5 needed

abbrev pub unrestored_coded : Unrestored → Coded
unrestored_coded LongCopy = coded 2 0
unrestored_coded (Stray entry) = coded 11 entry
unrestored_coded (RoomBack needed) = coded 5 needed

-- an answer of mending, and the slices after it
pub record Mends (a : MendAnswer) (copy places bytes : List ℕ) (r : Result ℕ Unmended) (copy' places' bytes' : List ℕ) : Type 0 where
  pub is : r ≡ told a
  pub copied : copy' ≡ copy_after a copy
  pub placed : places' ≡ places_after a places
  pub kept : bytes' ≡ bytes_after a bytes
  pub small : numbered (result_coded unmended_coded r) < 2 ^ 64

-- an answer of restoring, and the slice after it
pub record Restores (a : Back) (notes : List ℕ) (r : Result ℕ Unrestored) (notes' : List ℕ) : Type 0 where
  pub is : r ≡ told_back a
  pub back : notes' ≡ notes_after a notes
  pub small : numbered (result_coded unrestored_coded r) < 2 ^ 64

-- ---- lines and runs at a place

-- the bytes from a place up to another pass a test
pub record Run (test : ℕ → Bool) (s : List ℕ) (from to : ℕ) : Type 0 where
  pub on : from ≤ to
  pub within : to ≤ length s
  pub pass : (i : ℕ) → from ≤ i → i < to → test (get_or s i 0) ≡ true

-- the line that begins at a place ends before another
pub record LineAt (s : List ℕ) (at end : ℕ) : Type 0 where
  pub on : at < end
  pub within : end ≤ length s
  pub first : whole_lines (drop at s) ≡ take (end - at) (drop at s) ∷ whole_lines (drop end s)

-- ---- counts

pub record HighCounted (line : List ℕ) (r : ℕ) : Type 0 where
  pub count : length (high_bytes 0 line) ≡ r
  pub mended : length (joined encode line) ≡ length line + r

pub record LineCounted (line : List ℕ) (r : ℕ) : Type 0 where
  pub count : length (line_changes 0 line) ≡ r
  pub mended : length (mended_line line) ≡ length line + r

pub record Counted (notes : List ℕ) (r : ℕ) : Type 0 where
  pub count : length (changes notes) ≡ r
  pub mended : length (mended notes) ≡ length notes + r
  pub few : r ≤ length notes

-- ---- what is written: a text after at old bytes and n changes, with its own changes after the n

pub record Fits (at n : ℕ) (text : List ℕ) (list : List Change) (copy places bytes : List ℕ) : Type 0 where
  pub copied : at + n + length text ≤ length copy
  pub placed : n + length list ≤ length places
  pub kept : n + length list ≤ length bytes

pub record Put (at n : ℕ) (text : List ℕ) (list : List Change) (copy places bytes : List ℕ) (at' n' : ℕ) (copy' places' bytes' : List ℕ) : Type 0 where
  pub next : at' + n' ≡ at + n + length text
  pub count : n' ≡ n + length list
  pub copied : copy' ≡ sets copy (at + n) text
  pub placed : places' ≡ sets places n (map (λ c. c.place) list)
  pub kept : bytes' ≡ sets bytes n (map (λ c. c.byte) list)

-- a list that belongs to a copy as a whole, with room for what comes back
pub record Whole (copy : List ℕ) (list : List Change) (notes : List ℕ) : Type 0 where
  pub limit : length copy ≤ 131072
  pub all : belonging 0 copy list ≡ length list
  pub room : length (restored 0 copy list) ≤ length notes
