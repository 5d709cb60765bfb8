-- RULES 10: the twelve marked texts, one table and one statement. Each row has the option block as bytes, the notes
-- and the digest; the call with that block and room for the digest answers code 0, N and those bytes.
use Rattle.std.specs.Prelude.{Bool, ◌&&◌, List, [], ◌∷◌, ◌++◌, ℕ, T, eqb, length, replicate}
use Rattle.lists.specs.Runs.{every}
use Rattle.lists.specs.Trials.Bytes.{bytes, same}
use Rattle.lists.specs.Coded.{numbered}
use Rattle.formatter.specs.Answers.{answer_coded, output_after}
use Rattle.formatter.specs.Format.{own_room, answer}
use Rattle.rudignals.specs.Trials.Computing.{everything}

pub record Row : Type 0 where
  pub block : List ℕ
  pub notes : List ℕ
  pub digest : List ℕ

abbrev pub row : List ℕ → List ℕ → List ℕ → Row
row b n d = record { block = b; notes = n; digest = d }

-- the slice has two bytes more than the digest, which stay as they were
abbrev pub output : List ℕ → List ℕ
output d = replicate (length d) 46 ++ 46 ∷ 46 ∷ []

abbrev pub right : Row → Bool
right r =
    let a = answer own_room r.block r.notes (length (output r.digest)) in
    eqb (numbered (answer_coded a)) (length r.digest) && same (output_after a (output r.digest)) (r.digest ++ 46 ∷ 46 ∷ [])

abbrev pub none : List ℕ
none = []

-- flags: uniform is bit 4, quick bit 5, keep bit 8
abbrev pub flags : ℕ → ℕ → List ℕ
flags high low = 1 ∷ 0 ∷ 2 ∷ high ∷ low ∷ []

abbrev pub width10 : List ℕ
width10 = 2 ∷ 0 ∷ 2 ∷ 0 ∷ 10 ∷ []

abbrev pub prefix : ℕ → List ℕ
prefix c = 5 ∷ 0 ∷ 1 ∷ c ∷ []

abbrev pub damaged_line : List ℕ
damaged_line = bytes "a\n" ++ 0xB0 ∷ bytes " b\nc\n"

abbrev pub table : List Row
table =
    row none [] []
    ∷ row none (bytes " \t\n") (bytes "\n")
    ∷ row none (bytes "abc\r\n") (bytes "abc\n")
    ∷ row none (bytes "a.\nb\n") (bytes "a. b\n")
    ∷ row none (bytes "x a.\nb\n") (bytes "x a.  b\n")
    ∷ row (flags 0 16) (bytes "a  b\n") (bytes "a b\n")
    ∷ row (flags 0 16) (bytes "a." ++ 0xC2 ∷ 0xA0 ∷ bytes "b\n") (bytes "a.  b\n")
    ∷ row (flags 0 32 ++ width10) (bytes "aaaa bbbbb c\n") (bytes "aaaa bbbbb\nc\n")
    ∷ row (flags 0 32 ++ width10) (bytes "aaaa bbbbbb c\n") (bytes "aaaa\nbbbbbb c\n")
    ∷ row width10 (bytes "aa bbbbbbbb c\n") (bytes "aa bbbbbbbb\nc\n")
    ∷ row (prefix 62) (bytes "> a\n> b\nc\n") (bytes "> a b\nc\n")
    ∷ row (flags 1 0) damaged_line damaged_line
    ∷ []

pub marked_texts : T (every right table)
unfolding everything
marked_texts = tt
