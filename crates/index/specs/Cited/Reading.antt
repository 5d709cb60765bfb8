-- Records as marks tell them: a record's length and its count of output lines are gaps between marks, one after the other.
use Rattle.std.specs.Prelude.{Bool, List, [], ◌∷◌, ℕ, zero, suc, ◌+◌, take, drop}
use Rattle.marks.specs.Cited.Marks.{to_mark}
use Rattle.index.specs.declared.Record.{Record}

-- the numbers that may hold marks: two bits for each byte of the longest notes, 1,048,576
abbrev pub front : List ℕ → List ℕ
front table = take 65536 table

-- the place of the marks after a record, and the record that is told from there on
abbrev pub behind : Record → ℕ
behind r = (r.place + r.length) + (r.first + r.count)

unfoldable pub record_after : List Bool → Record → Record
record_after marks r = record {
  place = r.place + r.length;
  length = to_mark (drop (behind r) marks);
  first = r.first + r.count;
  count = to_mark (drop (behind r + to_mark (drop (behind r) marks)) marks);
}

-- n records after a record
unfoldable pub read_from : List Bool → ℕ → Record → List Record
read_from marks zero r = []
read_from marks (suc n) r = record_after marks r ∷ read_from marks n (record_after marks r)
