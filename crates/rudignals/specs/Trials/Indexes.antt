-- RULES 12: an index worked out by the definition, and the order of its refusals: 6 before 5.
use Rattle.std.specs.Prelude.{◌≡◌, refl, [], ◌∷◌}
use Rattle.lists.specs.Trials.Bytes.{bytes}
use Rattle.index.specs.Trials.Lookups.{entry}
use Rattle.indexer.specs.Index.{line_count, records_from, index_of}
use Rattle.indexer.specs.Answers.{done, full, room}
use Rattle.formatter.specs.Format.{own_room}
use Rattle.indexer.specs.Indexing.{indexing}
use Rattle.rudignals.specs.Trials.Computing.{everything}
use Rattle.rudignals.specs.Trials.MarkedTexts.{none}

pub three_pieces : indexing own_room none (bytes "a\r\n\nb") 5 3 ≡ done (bytes "a\n\nb\n") (entry 0 3 0 1 ∷ entry 3 1 1 1 ∷ entry 4 1 2 1 ∷ [])
unfolding everything indexing index_of records_from line_count
three_pieces = refl

pub two_records : indexing own_room none (bytes "a\r\n\nb") 4 2 ≡ full 3
unfolding everything indexing index_of records_from line_count
two_records = refl

pub four_bytes : indexing own_room none (bytes "a\r\n\nb") 4 3 ≡ room 5
unfolding everything indexing index_of records_from line_count
four_bytes = refl
