-- `indexer::write_lent` meets its contract.
use lib.ListN.{length}
use Rattle.std.proofs.lemmas.Result.{err_from_is_err_and}
use Rattle.indexer.specs.Indexing.{index_lending}
use Rattle.indexer.proofs.Answers.{indexing_left, refused_answer}
use Rattle.indexer.proofs.write_lent.Goals as goal

pub returns-in_err-admitted : goal.returns-in_err-admitted
returns-in_err-admitted c =
    let l = index_lending (length c.args.work.now) in
    let p = err_from_is_err_and c.from_residual.result c.from_residual.ensures.1 in
    rw (p.1, p.2) (refused_answer l _ _ _ _ _ _ _ (c.in_err-admitted.ensures.admits l.words))

pub returns : goal.returns
returns c = let l = index_lending (length c.args.work.now) in rw (indexing_left l _ _ c.in_ok-admitted.admitted _ _ (c.in_ok-admitted.ensures.admits l.words)) c.index_lent.ensures
