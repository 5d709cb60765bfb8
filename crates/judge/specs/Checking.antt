-- RULES 18.2: what the checking call answers. Measuring tells 1 to 4 for the notes, in their order; then come 9 and 10.
use Rattle.std.specs.Prelude.{cond, List, ℕ, ltb, length, Result, Ok, Err}
use Rattle.options.specs.Opts.{meant}
use Rattle.options.specs.OptionBlock.{read_block}
use Rattle.options.specs.declared.Options.{Options}
use Rattle.options.specs.declared.Fault.{Fault}
use Rattle.formatter.specs.Format.{Limits, Finding, found, stopped, finding}
use Rattle.checker.specs.Matching.{Verdict, accepted, at, verdict}
use Rattle.judge.specs.declared.Unaccepted.{Unaccepted}
use Rattle.judge.specs.declared.Unaccepted.TheVariants.{Refused, LongDigest, Line}

-- 10: the digest is not accepted
abbrev pub with_verdict : Verdict → Result (Unit {0}) Unaccepted
with_verdict accepted = Ok tt
with_verdict (at line) = Err (Line line)

-- 9 before it: a digest of so many bytes, more than notes may have
abbrev pub digest_within : ℕ → ℕ → Verdict → Result (Unit {0}) Unaccepted
digest_within most size v = cond (ltb most size) (Err LongDigest) (with_verdict v)

-- 1 to 4 before both
abbrev pub after_notes : Result (Unit {0}) Unaccepted → Finding → Result (Unit {0}) Unaccepted
after_notes then (found digest) = then
after_notes then (stopped r) = Err (Refused r)

-- the verdict on a digest under the options that a block means; of a faulty block none is asked
abbrev pub verdict_under : List ℕ → List ℕ → List ℕ → Result Options Fault → Verdict
verdict_under block notes digest (Err f) = accepted
verdict_under block notes digest (Ok o) = verdict (meant block o) notes digest

unfoldable pub checking : Limits → List ℕ → List ℕ → List ℕ → Result (Unit {0}) Unaccepted
checking l block notes digest = after_notes (digest_within l.bytes (length digest) (verdict_under block notes digest (read_block block))) (finding l block notes)
