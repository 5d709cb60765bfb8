-- `flow::send_notes` meets its contract.
use mathlib.Core.Path.{refl}
use mathlib.Core.Bool.{true, true≢false}
use native.Mathlib.Omega.{arith}
use Rattle.walk.proofs.Steps.{room_full}
use Rattle.flow.proofs.Answered.{words_answer, done_answer, room_answer}
use Rattle.flow.proofs.send_notes.Goals as goal

pub returns-in-Err : goal.returns-in-Err
returns-in-Err c =
    rw c.into.ensures (words_answer _ (room_full true _ (λ e. refl) (λ e. absurd (true≢false e))) _ _ _ _ _ c.send_pieces.ensures c.requires.admitted.short c.in-Err.is (c.fill.ensures.after (λ y e. e)))

pub returns-then-sent-out : goal.returns-then-sent-out
returns-then-sent-out c =
    done_answer _ (room_full true _ (λ e. refl) (λ e. absurd (true≢false e))) _ _ _ _ _ c.send_pieces.ensures c.requires.admitted.short c.in-Ok.is (omega arith)

pub returns-else-sent-out : goal.returns-else-sent-out
returns-else-sent-out c =
    room_answer _ (room_full true _ (λ e. refl) (λ e. absurd (true≢false e))) _ _ _ _ _ c.send_pieces.ensures c.requires.admitted.short c.in-Ok.is (omega arith) (c.fill-else-sent-out.ensures.after (λ y e. e))
