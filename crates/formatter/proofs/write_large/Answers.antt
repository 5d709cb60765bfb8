-- `formatter::write_large` meets its contract.
use native.Mathlib.Omega.{arith}
use mathlib.Core.Logic.{inl, inr}
use lib.ListN.{length}
use Rattle.formatter.proofs.Replies.{done_written, room_written}
use Rattle.formatter.proofs.write_large.Goals as goal

pub returns-then-needed-gt-MOST_TOLD : goal.returns-then-needed-gt-MOST_TOLD
returns-then-needed-gt-MOST_TOLD c =
    room_written (length c.args.work.now) _ _ _ _ c.put_all_lent-needed.ensures c.min.ensures (λ k. elim c.then-needed-gt-MOST_TOLD.either [ inl h ↦ omega arith | inr h ↦ omega arith ]) (c.fill.ensures.after (λ y e. e))

pub returns : goal.returns
returns c = done_written (length c.args.work.now) _ _ _ _ c.put_all_lent-needed.ensures (omega arith) (omega arith)
