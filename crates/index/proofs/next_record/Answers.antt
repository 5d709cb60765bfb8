-- `index::next_record` meets its contract.
use Rattle.index.proofs.Reading.{front_is, front_few}
use Rattle.index.proofs.next_record.Goals as goal

pub record_behind-requires : goal.record_behind-requires
record_behind-requires c = rw (front_is c.args.marks.now _ c.min-end.ensures) (c.requires, front_few c.args.marks.now)

pub returns : goal.returns
returns c = rw (← front_is c.args.marks.now _ c.min-end.ensures) c.record_behind.ensures
