-- `indexer::index_with` meets its contract.
use mathlib.Core.Path.{refl}
use Rattle.indexer.proofs.Answers.{fitted_answer}
use Rattle.indexer.proofs.index_with.Goals as goal

pub returns-then-is_err : goal.returns-then-is_err
returns-then-is_err c = fitted_answer _ _ _ _ _ _ _ _ c.note_pieces-noted.ensures _ c.in_room-r.ensures _ (λ e. c.fill.ensures.after (λ y e. e)) (λ e. cc)

pub returns-else-is_err : goal.returns-else-is_err
returns-else-is_err c = fitted_answer _ _ _ _ _ _ _ _ c.note_pieces-noted.ensures _ c.in_room-r.ensures _ (λ e. cc) (λ e. refl)
