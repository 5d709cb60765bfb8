-- `judge::check_large` meets its contract.
use Rattle.std.proofs.Common.{rules}
use mathlib.Core.Path.{sym, ◌∙◌}
use lib.ListN.{length}
use Rattle.formatter.specs.Work.{lending}
use Rattle.judge.proofs.Answers.{checking_left, refused_answer}
use Rattle.judge.proofs.check_large.Goals as goal

pub returns-in_err-admitted : goal.returns-in_err-admitted
returns-in_err-admitted c =
    let l = lending (length c.args.work.now) in search (rules, refused_answer l _ _ c.args.digest.now (c.in_err-admitted.ensures.admits l.words))

pub returns : goal.returns
returns c =
    let l = lending (length c.args.work.now) in c.check_lent.ensures ∙ sym (checking_left l _ _ _ c.in_ok-admitted.admitted (c.in_ok-admitted.ensures.admits l.words))
