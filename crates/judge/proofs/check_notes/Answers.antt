-- `judge::check_notes` meets its contract.
use Rattle.formatter.specs.Format.{most_bytes}
use Rattle.judge.proofs.Answers.{through_answer}
use Rattle.judge.proofs.check_notes.Goals as goal

pub returns : goal.returns
returns c = through_answer most_bytes _ _ _ _ c.begin-first.result c.in_ok-m.ensures c.begin-first.ensures c.judge.ensures
