-- `indexer::index_notes` meets its contract.
use Rattle.indexer.proofs.Answers.{small_room, small_indexes}
use Rattle.indexer.proofs.index_notes.Goals as goal

pub returns : goal.returns
returns c =
    let p = c.requires in
    small_indexes _ _ _ c.args.notes.admitted p.0 _ _ (small_room c.args.notes.options.quick _ _ c.numbers_for.ensures) c.index_with.ensures
