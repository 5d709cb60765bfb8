-- `indexer::write_pieces` meets its contract.
use Rattle.std.proofs.lemmas.Result.{err_from_is_err_and}
use Rattle.formatter.specs.Format.{own_room}
use Rattle.indexer.proofs.Answers.{indexing_left, refused_answer}
use Rattle.indexer.proofs.write_pieces.Goals as goal

pub returns-in_err-admitted : goal.returns-in_err-admitted
returns-in_err-admitted c = let p = err_from_is_err_and c.from_residual.result c.from_residual.ensures.1 in rw (p.1, p.2) (refused_answer own_room _ _ _ _ _ _ _ c.in_err-admitted.ensures.admits)

pub returns : goal.returns
returns c = rw (indexing_left own_room _ _ c.in_ok-admitted.admitted _ _ c.in_ok-admitted.ensures.admits) c.index_notes.ensures
