-- RULES 18: digests checked by the definition, the readings of docs/DECISIONS.md among them: one table and one statement.
use Rattle.std.specs.Prelude.{Bool, ◌&&◌, List, [], ◌∷◌, ◌++◌, ℕ, T, eqb}
use Rattle.lists.specs.Runs.{every}
use Rattle.lists.specs.Trials.Bytes.{bytes}
use Rattle.checker.specs.Matching.{match_text, match_feed, match_line, spaces, parting, lead, match_spaced, match_next, match_rest, match_words, match_piece, match_pieces, verdict}
use Rattle.judge.specs.Answers.{check_coded}
use Rattle.formatter.specs.Format.{own_room}
use Rattle.judge.specs.Checking.{checking}
use Rattle.rudignals.specs.Trials.Computing.{everything}
use Rattle.rudignals.specs.Trials.MarkedTexts.{none, flags, prefix, damaged_line}

-- an option block, notes, a digest, and the code and N of the answer
pub record Checked : Type 0 where
  pub block : List ℕ
  pub notes : List ℕ
  pub digest : List ℕ
  pub code : ℕ
  pub number : ℕ

abbrev pub checked : List ℕ → List ℕ → List ℕ → ℕ → ℕ → Checked
checked b n d c k = record { block = b; notes = n; digest = d; code = c; number = k }

abbrev pub told : Checked → Bool
told r = let a = check_coded (checking own_room r.block r.notes r.digest) in eqb a.code r.code && eqb a.value r.number

abbrev pub no_break_space : List ℕ
no_break_space = 0xC2 ∷ 0xA0 ∷ []

abbrev pub digests : List Checked
digests =
    checked none [] [] 0 0
    -- the words, cut into lines and parted in whatever way
    ∷ checked none (bytes "a b\nc\n") (bytes "a b c\n") 0 0
    ∷ checked none (bytes "a b\nc\n") (bytes "a\nb\t c\n") 0 0
    -- once each, in order
    ∷ checked none (bytes "a b\nc\n") (bytes "a c\n") 10 0
    ∷ checked none (bytes "a b\nc\n") (bytes "a\nb b c\n") 10 1
    ∷ checked none (bytes "a b\nc\n") (bytes "a\nc b\n") 10 1
    -- nothing else: an indent, blanks at a line's end, a line more
    ∷ checked none (bytes "  a\n  b\n") (bytes "  a\n  b\n") 0 0
    ∷ checked none (bytes "  a\n  b\n") (bytes "  a\n b\n") 10 1
    ∷ checked none (bytes "a\n") (bytes "a \n") 10 0
    ∷ checked none (bytes "a\n") (bytes "a\n\n") 10 1
    -- blank and plain lines as they are emitted; a carriage return before the line feed stays in the line
    ∷ checked none (bytes "a\n \nb\n") (bytes "a\n\nb\n") 0 0
    ∷ checked none (bytes "a\n \nb\n") (bytes "a\n \nb\n") 10 1
    ∷ checked (prefix 62) (bytes "> a\nb  c\n") (bytes "> a\nb  c\n") 0 0
    ∷ checked (prefix 62) (bytes "> a\nb  c\n") (bytes "> a\nb c\n") 10 1
    ∷ checked none (bytes "a\r\n") (bytes "a\r\n") 10 0
    ∷ checked (flags 1 0) damaged_line damaged_line 0 0
    -- cut short: the line past the end; an unended line cannot be continued
    ∷ checked none (bytes "a b\nc\n") (bytes "a\nb\n") 10 2
    ∷ checked none (bytes "a b\nc\n") (bytes "a\nb c") 10 1
    -- with glue on, U+00A0 parts words only beside another blank
    ∷ checked none (bytes "a b\n") (bytes "a" ++ no_break_space ++ bytes "b\n") 0 0
    ∷ checked (flags 2 0) (bytes "a b\n") (bytes "a" ++ no_break_space ++ bytes "b\n") 10 0
    ∷ checked (flags 2 0) (bytes "a b\n") (bytes "a" ++ no_break_space ++ bytes " b\n") 0 0
    -- the notes' refusals come first
    ∷ checked (1 ∷ []) (0xB0 ∷ []) (bytes "x") 1 0
    ∷ checked none (97 ∷ 0xB0 ∷ []) (bytes "x") 3 1
    ∷ []

pub checked_digests : T (every told digests)
unfolding everything match_text match_feed match_line spaces parting lead match_spaced match_next match_rest match_words match_piece match_pieces verdict checking
checked_digests = tt
