-- `judge::check` meets its contract.
use Rattle.std.proofs.Common.{rules}
use mathlib.Core.Path.{sym, ◌∙◌}
use Rattle.formatter.specs.Format.{own_room}
use Rattle.judge.proofs.Answers.{checking_left, refused_answer}
use Rattle.judge.proofs.check.Goals as goal

pub returns-in_err-admitted : goal.returns-in_err-admitted
returns-in_err-admitted c = search (rules, refused_answer own_room _ _ c.args.digest.now c.in_err-admitted.ensures.admits)

pub returns : goal.returns
returns c = c.check_notes.ensures ∙ sym (checking_left own_room _ _ _ c.in_ok-admitted.admitted c.in_ok-admitted.ensures.admits)
