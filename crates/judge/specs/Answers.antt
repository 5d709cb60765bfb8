-- RULES 18.2: the answers of the checking call, and code and N of each. (The call writes nothing.)
use Rattle.std.specs.Prelude.{Result, Ok, Err}
use Rattle.lists.specs.Coded.{Coded, coded}
use Rattle.formatter.specs.Answers.{refusal_coded}
use Rattle.judge.specs.declared.Unaccepted.{Unaccepted}
use Rattle.judge.specs.declared.Unaccepted.TheVariants.{Refused, LongDigest, Line}

-- for the notes 1 to 4 as RULES 2.2 has them, or 12; 9 for a digest over 65,536 bytes, 10 and the number of the line that is named
abbrev pub unaccepted_coded : Unaccepted → Coded
unaccepted_coded (Refused r) = refusal_coded r
unaccepted_coded LongDigest = coded 9 0
unaccepted_coded (Line line) = coded 10 line

abbrev pub check_coded : Result (Unit {0}) Unaccepted → Coded
check_coded (Ok u) = coded 0 0
check_coded (Err e) = unaccepted_coded e
