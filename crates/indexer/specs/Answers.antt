-- RULES 12.2: the answers of the writing call with an index, code and N of each, and what each leaves in the output, in the records and in
-- the count of those filled.
use Rattle.std.specs.Prelude.{List, ◌++◌, ℕ, length, drop, replicate}
use Rattle.lists.specs.Coded.{Coded, coded}
use Rattle.formatter.specs.Answers.{refusal_coded, output_refused}
use Rattle.formatter.specs.declared.Refusal.{Refusal}
use Rattle.index.specs.declared.Record.{Record}

pub data Indexed : Type 0 where
  -- the digest's bytes, and its records
  done : List ℕ → List Record → Indexed
  -- why there is no digest
  refused : Refusal → Indexed
  -- index full: the number of pieces
  full : ℕ → Indexed
  -- the length needed
  room : ℕ → Indexed

-- the table: code and N
abbrev pub index_coded : Indexed → Coded
index_coded (done digest index) = coded 0 (length digest)
index_coded (refused r) = refusal_coded r
index_coded (full pieces) = coded 6 pieces
index_coded (room needed) = coded 5 needed

-- the output afterwards: the digest and the rest unchanged; as writing leaves it on a refusal; all zero
unfoldable pub index_output_after : Indexed → List ℕ → List ℕ
index_output_after (done digest index) output = digest ++ drop (length digest) output
index_output_after (refused r) output = output_refused r output
index_output_after (full pieces) output = replicate (length output) 0
index_output_after (room needed) output = replicate (length output) 0

-- the records afterwards: the index and those after it unchanged; on a refusal all unchanged
unfoldable pub records_after : Indexed → List Record → List Record
records_after (done digest index) records = index ++ drop (length index) records
records_after (refused r) records = records
records_after (full pieces) records = records
records_after (room needed) records = records

-- the count of filled records: none on a refusal
abbrev pub filled_after : Indexed → ℕ
filled_after (done digest index) = length index
filled_after (refused r) = 0
filled_after (full pieces) = 0
filled_after (room needed) = 0
