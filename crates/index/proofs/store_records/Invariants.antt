-- So many records have been read, and stored in the place of the first ones.
use Rattle.std.proofs.Common.{◌≡◌}
use Rattle.marks.specs.Cited.Marks.{marks_in}
use Rattle.index.specs.Cited.Lists.{no_record}
use Rattle.index.specs.Cited.Reading.{front}
use Rattle.index.proofs.Reading.{last_read, read_to}
use Rattle.index.proofs.store_records.Given as goal

abbrev pub invariant-loop-slot : goal.invariant-loop-slot
invariant-loop-slot l =
    (l.r ≡ last_read (marks_in (front l.marks)) l.slot-index no_record) × (l.slot-items ≡ read_to (marks_in (front l.marks)) l.slot-index no_record l.initial.slot-items)
