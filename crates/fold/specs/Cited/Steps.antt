-- What the functions of fold answer for on the way: the answer in code, a row by its end, and what is written of a text from a place on.
use Rattle.std.specs.Prelude.{◌≡◌, Bool, true, ◌&&◌, List, ◌∷◌, ℕ, ◌+◌, ◌^◌, ◌≤◌, ◌<◌, ltb, leb, length, get_or, drop, Result, Ok, Err}
use Rattle.lists.specs.Coded.{Coded, coded, numbered, result_coded}
use Rattle.text.specs.Characters.{glyph, characters, extent}
use Rattle.lines.specs.Classes.{column_behind}
use Rattle.fold.specs.Fold.{staying_on, first_row, FoldAnswer, done, options, long, room, fold_output_after}
use Rattle.fold.specs.declared.Unfolded.{Unfolded}
use Rattle.fold.specs.declared.Unfolded.TheVariants.{Options, Long, Room}
use Rattle.lines.specs.declared.Spot.{Spot}

-- ---- the answer in code: without the bytes, which are in the output

abbrev pub told : FoldAnswer → Result ℕ Unfolded
told (done all) = Ok (length all)
told options = Err Options
told long = Err Long
told (room needed) = Err (Room needed)

-- code and N of a refusal
abbrev pub unfolded_coded : Unfolded → Coded
unfolded_coded Options = coded 1 0
unfolded_coded Long = coded 2 0
unfolded_coded (Room needed) = coded 5 needed

-- an answer, and the output after it
pub record Folds (a : FoldAnswer) (out : List ℕ) (r : Result ℕ Unfolded) (out' : List ℕ) : Type 0 where
  pub is : r ≡ told a
  pub output : out' ≡ fold_output_after a out
  pub small : numbered (result_coded unfolded_coded r) < 2 ^ 64

-- ---- places of a line

-- a byte from 20 to 7E: a character of one column
abbrev pub plain_byte : ℕ → Bool
plain_byte b = leb 0x20 b && ltb b 0x7F

-- such bytes stand from a place up to another
pub record Plain (s : List ℕ) (from to : ℕ) : Type 0 where
  pub on : from ≤ to
  pub within : to ≤ length s
  pub each : (i : ℕ) → from ≤ i → i < to → plain_byte (get_or s i 0) ≡ true

-- r is after the character at a place, which begins at a column
pub record Behind (tab : ℕ) (line : List ℕ) (at column : ℕ) (r : Spot) : Type 0 where
  pub on : at < r.at
  pub within : r.at ≤ length line
  pub first : characters (drop at line) ≡ glyph (drop at line) ∷ characters (drop r.at line)
  pub count : at + length (glyph (drop at line)).bytes ≡ r.at
  pub reached : column_behind tab column (glyph (drop at line)) ≡ r.column
  pub still : (glyph (drop at line)).width ≡ 0 → r.column ≡ column
  pub moved : ((glyph (drop at line)).width ≡ 0 → ⊥) → column < r.column
  pub near : r.column ≤ column + 100

-- where a row ends that is at a column at a place, or begins there
unfoldable pub stay_end : ℕ → ℕ → List ℕ → ℕ → ℕ → ℕ
stay_end tab columns line at column = at + extent (staying_on tab columns column (characters (drop at line)))

unfoldable pub row_end : ℕ → ℕ → List ℕ → ℕ → ℕ
row_end tab columns line at = at + extent (first_row tab columns (characters (drop at line)))
