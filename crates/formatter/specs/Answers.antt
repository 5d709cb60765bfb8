-- RULES 2.1: the answers, code and N of each, and the output afterwards.
use Rattle.std.specs.Prelude.{List, ◌++◌, ℕ, length, drop, replicate}
use Rattle.lists.specs.Coded.{Coded, coded}
use Rattle.formatter.specs.declared.Refusal.{Refusal}
use Rattle.formatter.specs.declared.Refusal.TheVariants.{Options, Long, Text, Words, Work}

pub data Answer : Type 0 where
  -- the digest's bytes
  done : List ℕ → Answer
  -- why there is no digest
  refused : Refusal → Answer
  -- the length needed
  room : ℕ → Answer

-- the table: code and N. The fault's place in the block; the place of the first damaged character's first byte; the start of the first
-- paragraph of too many words (of over 1,024); in its place, of the calls that are lent working room, the room needed
abbrev pub refusal_coded : Refusal → Coded
refusal_coded (Options place) = coded 1 place
refusal_coded Long = coded 2 0
refusal_coded (Text place) = coded 3 place
refusal_coded (Words place) = coded 4 place
refusal_coded (Work needed) = coded 12 needed

abbrev pub answer_coded : Answer → Coded
answer_coded (done digest) = coded 0 (length digest)
answer_coded (refused r) = refusal_coded r
answer_coded (room needed) = coded 5 needed

-- the output afterwards: the digest and the rest unchanged; unchanged; all zero
abbrev pub output_refused : Refusal → List ℕ → List ℕ
output_refused (Options place) output = output
output_refused Long output = output
output_refused (Text place) output = output
output_refused (Words place) output = replicate (length output) 0
output_refused (Work needed) output = output

unfoldable pub output_after : Answer → List ℕ → List ℕ
output_after (done digest) output = digest ++ drop (length digest) output
output_after (refused r) output = output_refused r output
output_after (room needed) output = replicate (length output) 0
