-- RULES 13: what the explaining call answers.
use Rattle.std.specs.Prelude.{cond, List, ℕ, ltb, length, get_or, Result, Ok, Err}
use Rattle.lists.specs.Coded.{Coded, coded}
use Rattle.options.specs.Opts.{meant}
use Rattle.options.specs.OptionBlock.{read_block}
use Rattle.options.specs.declared.Options.{Options}
use Rattle.options.specs.declared.Fault.{Fault}
use Rattle.endings.specs.declared.Ending.{Ending}
use Rattle.endings.specs.declared.Ending.TheVariants.{Paragraph as OfParagraph}
use Rattle.endings.specs.Endings.{numbers_of}
use Rattle.formatter.specs.Answers.{refusal_coded}
use Rattle.formatter.specs.Format.{Limits, Finding, found, stopped, finding}
use Rattle.formatter.specs.declared.Refusal.{Refusal}
use Rattle.formatter.specs.declared.Refusal.TheVariants.{Options as Faulty}
use Rattle.explain.specs.Reasons.{line_endings}

pub data Explanation : Type 0 where
  because : Ending → Explanation
  -- as measuring refuses the notes
  refused : Refusal → Explanation
  -- how many output lines there are
  no_line : ℕ → Explanation

abbrev pub look_up : ℕ → List Ending → Explanation
look_up line es = cond (ltb line (length es)) (because (get_or es line OfParagraph)) (no_line (length es))

abbrev pub look_up_in : ℕ → List ℕ → List ℕ → Result Options Fault → Explanation
look_up_in line block notes (Err f) = refused (Faulty f.at)
look_up_in line block notes (Ok o) = look_up line (line_endings (meant block o) notes)

-- the refusals of measuring, then 8
abbrev pub after_measuring : Explanation → Finding → Explanation
after_measuring e (found digest) = e
after_measuring e (stopped r) = refused r

unfoldable pub explaining : Limits → List ℕ → List ℕ → ℕ → Explanation
explaining l block notes line = after_measuring (look_up_in line block notes (read_block block)) (finding l block notes)

-- the table: code and N
abbrev pub explain_coded : Explanation → Coded
explain_coded (because e) = coded 0 0
explain_coded (refused r) = refusal_coded r
explain_coded (no_line n) = coded 8 n

-- the kind and its numbers afterwards; on a refusal they are as they were
unfoldable pub reason_after : Explanation → List ℕ → List ℕ
reason_after (because e) reason = numbers_of e
reason_after (refused r) reason = reason
reason_after (no_line n) reason = reason
