-- What the functions of the call answer for: a piece and the pieces of the notes, matched; and what is told of what the digest has come to.
use Rattle.std.specs.Prelude.{◌≡◌, false, cond, List, ℕ, ltb, length, Option, Some, None, Result, Ok, Err}
use Rattle.options.specs.Opts.{Opts}
use Rattle.pieces.specs.Pieces.{Kind, pieces}
use Rattle.words.specs.declared.TooMany.{TooMany}
use Rattle.walk.specs.Digest.{too_many, long_paragraph}
use Rattle.walk.specs.Cited.Course.{pieces_from, FirstPiece}
use Rattle.walk.specs.declared.Stopped.{Stopped}
use Rattle.formatter.specs.Format.{Limits, within}
use Rattle.checker.specs.Matching.{and_then, match_piece, match_pieces, verdict}
use Rattle.checker.specs.Cited.Places.{matched, Matches}
use Rattle.checker.specs.declared.Spot.{Spot}
use Rattle.checker.specs.declared.Fault.{Fault}
use Rattle.judge.specs.Checking.{digest_within, after_notes}
use Rattle.judge.specs.declared.Unaccepted.{Unaccepted}
use Rattle.judge.specs.declared.Unaccepted.TheVariants.{LongDigest, Line}
use Rattle.judge.specs.declared.Stand.{Stand}

-- ---- the pieces

-- the first piece from a place on was matched after all before it, and the work goes on after it
pub record Took (most : ℕ) (o : Opts) (notes digest : List ℕ) (c d : Stand) : Type 0 where
  pub kind : Kind
  pub goes : FirstPiece o c.mail notes c.at kind d.mail d.at
  pub few : too_many most o kind ≡ false
  pub matches : Matches digest (and_then (matched digest c.matched) (match_piece o kind)) d.matched

-- the first paragraph of over so many words from a place on
abbrev pub long_behind : ℕ → Opts → List ℕ → Stand → Option ℕ
long_behind most o notes c = long_paragraph most o c.at (pieces_from o c.mail notes c.at)

-- or it is a paragraph of too many words
abbrev pub Stepped : ℕ → Opts → List ℕ → List ℕ → Stand → Result Stand TooMany → Type 0
Stepped most o notes digest c (Ok d) = Took most o notes digest c d
Stepped most o notes digest c (Err t) = long_behind most o notes c ≡ Some c.at

-- all pieces were matched, after what the digest had come to first; or the work stopped at a paragraph of too many words
abbrev pub Walked : ℕ → Opts → List ℕ → List ℕ → Result Spot Fault → Result (Result Spot Fault) Stopped → Type 0
Walked most o notes digest first (Ok m) =
    (long_paragraph most o 0 (pieces o notes) ≡ None) × Matches digest (and_then (matched digest first) (match_pieces o (pieces o notes))) m
Walked most o notes digest first (Err s) = long_paragraph most o 0 (pieces o notes) ≡ Some s.at

-- ---- the answer

-- where matching begins in a digest of so many bytes, which may have no more than bytes
abbrev pub begun : ℕ → ℕ → Result Spot Fault
begun bytes size = cond (ltb bytes size) (Err (record { line = 0 })) (Ok (record { at = 0; line = 0 }))

-- what is told of a digest of so many bytes by what it has come to after the last piece
abbrev pub told_of : ℕ → Result Spot Fault → Result (Unit {0}) Unaccepted
told_of size (Err f) = Err (Line f.line)
told_of size (Ok p) = cond (ltb p.at size) (Err (Line p.line)) (Ok tt)

abbrev pub judged_by : ℕ → ℕ → Result Spot Fault → Result (Unit {0}) Unaccepted
judged_by bytes size m = cond (ltb bytes size) (Err LongDigest) (told_of size m)

-- what is left to be told where none of codes 1 to 3 is due
abbrev pub left_of : Limits → Opts → List ℕ → List ℕ → Result (Unit {0}) Unaccepted
left_of l o notes digest = after_notes (digest_within l.bytes (length digest) (verdict o notes digest)) (within l.words o notes)
