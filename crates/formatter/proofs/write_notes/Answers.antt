-- `formatter::write_notes` meets its contract.
use Rattle.std.proofs.lemmas.Result.{err_from_is_err_and}
use native.Mathlib.Omega.{arith}
use Rattle.formatter.proofs.Replies.{words_answer, done_answer, room_answer}
use Rattle.formatter.proofs.write_notes.Goals as goal

pub returns-in_err-needed : goal.returns-in_err-needed
returns-in_err-needed c = let p = err_from_is_err_and c.from_residual.result c.from_residual.ensures.1 in rw (p.1, p.2) (words_answer _ _ _ _ _ c.put_all.ensures c.in_err-needed.was)

pub returns-then-out-needed : goal.returns-then-out-needed
returns-then-out-needed c = room_answer _ _ _ _ _ c.put_all.ensures c.in_ok-needed.was (omega arith) (c.fill.ensures.after (λ y e. e))

pub returns : goal.returns
returns c = done_answer _ _ _ _ _ c.put_all.ensures c.in_ok-needed.was (omega arith)
