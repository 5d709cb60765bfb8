-- The marks that spell the pieces' lengths and counts of lines tell the records.
use mathlib.Core.Path.{◌≡◌, refl, sym, ap, ◌∙◌}
use mathlib.Core.Bool.{Bool}
use mathlib.Core.List.{List, [], ◌∷◌, ◌++◌}
use Prim.Native.Nat.{ℕ, ◌+◌}
use native.Mathlib.Omega.{arith}
use lib.ListN.{length, drop}
use lib.Seq.{drop-drop}
use Rattle.options.specs.Opts.{Opts}
use Rattle.pieces.specs.Pieces.{Piece}
use Rattle.walk.specs.Digest.{extent_of}
use Rattle.marks.specs.Cited.Marks.{to_mark, spelled, Positive}
use Rattle.marks.proofs.Spelled.{spelled_first, spelled_rest}
use Rattle.index.specs.declared.Record.{Record}
use Rattle.index.specs.Cited.Lists.{no_record}
use Rattle.index.specs.Cited.Reading.{behind, record_after, read_from}
use Rattle.indexer.specs.Index.{line_count, records_from}
use Rattle.indexer.specs.Cited.Noting.{gaps_of}

-- a record read where two numbers are spelled
module _ (marks : List Bool) (r : Record) (m n : ℕ) (gs : List ℕ) (rest : List Bool) (p : Positive (m ∷ n ∷ gs)) (e : drop (behind r) marks ≡ spelled (m ∷ n ∷ gs) ++ rest) where
  first_is : to_mark (drop (behind r) marks) ≡ m
  first_is = ap to_mark e ∙ spelled_first m (n ∷ gs) rest p.0

  behind_first : drop (behind r + m) marks ≡ spelled (n ∷ gs) ++ rest
  behind_first = sym (drop-drop m (behind r) marks) ∙ ap (drop m) e ∙ spelled_rest m (n ∷ gs) rest p.0

  second_is : to_mark (drop (behind r + m) marks) ≡ n
  second_is = ap to_mark behind_first ∙ spelled_first n gs rest p.1.0

  behind_second : drop (behind r + m + n) marks ≡ spelled gs ++ rest
  behind_second = sym (drop-drop n (behind r + m) marks) ∙ ap (drop n) behind_first ∙ spelled_rest n gs rest p.1.0

  record_read : record_after marks r ≡ record { place = r.place + r.length; length = m; first = r.first + r.count; count = n }
  unfolding record_after
  record_read = rw (first_is, second_is)

records_behind : (o : Opts) (marks : List Bool) (r : Record) (qs : List Piece) (rest : List Bool) → Positive (gaps_of o qs) → drop (behind r) marks ≡ spelled (gaps_of o qs) ++ rest
    → read_from marks (length qs) r ≡ records_from o (r.place + r.length) (r.first + r.count) qs
unfolding read_from records_from gaps_of
records_behind o marks r [] rest p e = refl
records_behind o marks r (q ∷ qs) rest p e =
    let m = length (extent_of q) in
    let n = line_count o q in
    let s : Record = record { place = r.place + r.length; length = m; first = r.first + r.count; count = n } in
    let b : behind s ≡ behind r + m + n = omega arith in
    let d : drop (behind s) marks ≡ spelled (gaps_of o qs) ++ rest = ap (λ (k : ℕ). drop k marks) b ∙ behind_second marks r m n (gaps_of o qs) rest p e in
    rw (record_read marks r m n (gaps_of o qs) rest p e) (ap (λ (rs : List Record). s ∷ rs) (records_behind o marks s qs rest p.1.1 d))

pub records_read : (o : Opts) (qs : List Piece) (rest : List Bool) → Positive (gaps_of o qs) → read_from (spelled (gaps_of o qs) ++ rest) (length qs) no_record ≡ records_from o 0 0 qs
records_read o qs rest p = records_behind o (spelled (gaps_of o qs) ++ rest) no_record qs rest p refl
