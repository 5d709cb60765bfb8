-- What the functions of unflow answer for on the way: a line in places, and what is written of it after the lines before it.
use Rattle.std.specs.Prelude.{◌≡◌, Bool, cond, not, ◌&&◌, List, [], ◌∷◌, ◌++◌, ℕ, ◌^◌, ◌≤◌, ◌<◌, eqb, length, drop, take, replicate, Result, Ok, Err}
use Rattle.lists.specs.Coded.{Coded, coded, numbered, result_coded}
use Rattle.unflow.specs.Flowed.{quote_mark, cr_lf, quote_depth, stuffing, content_of, is_separator, is_soft}
use Rattle.unflow.specs.Unflow.{UnflowAnswer, done, long, room, unflow_output_after}
use Rattle.unflow.specs.declared.Line.{Line}
use Rattle.unflow.specs.declared.Unread.{Unread}
use Rattle.unflow.specs.declared.Unread.TheVariants.{Long, Room}

-- ---- the answer in code: without the bytes, which are in the output

abbrev pub told : UnflowAnswer → Result ℕ Unread
told (done read) = Ok (length read)
told long = Err Long
told (room needed) = Err (Room needed)

-- code and N of a refusal
abbrev pub unread_coded : Unread → Coded
unread_coded Long = coded 2 0
unread_coded (Room needed) = coded 5 needed

-- an answer, and the output after it
pub record Reads (a : UnflowAnswer) (out : List ℕ) (r : Result ℕ Unread) (out' : List ℕ) : Type 0 where
  pub is : r ≡ told a
  pub output : out' ≡ unflow_output_after a out
  pub small : numbered (result_coded unread_coded r) < 2 ^ 64

-- ---- a line

-- by places: its quote marks, and its content from a place on
pub record Parted (line : List ℕ) (l : Line) : Type 0 where
  pub depth : quote_depth line ≡ l.depth
  pub marks : take l.depth line ≡ replicate l.depth quote_mark
  pub order : l.depth ≤ l.start
  pub within : l.start ≤ length line
  pub content : content_of line ≡ drop l.start line
  pub soft : is_soft line ≡ l.soft
  pub separator : is_separator line ≡ l.separator

-- ---- what is written, where a paragraph is open, of a depth, or none is

-- the line goes on in it
unfoldable pub joins : Bool → ℕ → List ℕ → Bool
joins going depth line = going && eqb depth (quote_depth line) && not (is_separator line)

unfoldable pub end_of : Bool → List ℕ
end_of going = cond going cr_lf []

-- the end of the paragraph before it, quote marks and stuffing
unfoldable pub start_of : Bool → ℕ → List ℕ → List ℕ
start_of going depth line = cond (joins going depth line) [] (end_of going ++ (replicate (quote_depth line) quote_mark ++ stuffing (content_of line)))

-- all of a line: a soft one leaves the paragraph open
unfoldable pub placed : Bool → ℕ → List ℕ → List ℕ
placed going depth line = start_of going depth line ++ (content_of line ++ end_of (not (is_soft line)))

-- all lines, and the end of a paragraph that is open after them
unfoldable pub placed_from : Bool → ℕ → List (List ℕ) → List ℕ
placed_from going depth [] = end_of going
placed_from going depth (line ∷ lines) = placed going depth line ++ placed_from (is_soft line) (quote_depth line) lines
