-- RULES 12.2: what the writing call with an index answers. Measuring tells 1 to 4; then comes 6, given exactly when there are more
-- pieces than records; then 5.
use Rattle.std.specs.Prelude.{cond, List, [], ℕ, ◌+◌, ◌/◌, leb, length, Result, Ok, Err}
use Rattle.options.specs.Opts.{Opts, meant}
use Rattle.options.specs.OptionBlock.{read_block}
use Rattle.options.specs.declared.Options.{Options}
use Rattle.options.specs.declared.Fault.{Fault}
use Rattle.walk.specs.Work.{work_for}
use Rattle.formatter.specs.Format.{Words, lent, Limits, Finding, found, stopped, finding, most_told, is_told}
use Rattle.formatter.specs.Work.{most_lent}
use Rattle.index.specs.declared.Record.{Record}
use Rattle.indexer.specs.Index.{index_of}
use Rattle.indexer.specs.Answers.{Indexed, done, refused, full, room}

-- with a digest and its index, an output slice of so many bytes and a list of so many records
abbrev pub with_output : Words → ℕ → List Record → List ℕ → Indexed
with_output w space index digest = cond (is_told w (length digest)) (cond (leb (length digest) space) (done digest index) (room (length digest))) (room most_told)

abbrev pub with_index : Words → ℕ → ℕ → List Record → List ℕ → Indexed
with_index w space records index digest = cond (leb (length index) records) (with_output w space index digest) (full (length index))

abbrev pub in_index : Words → ℕ → ℕ → List Record → Finding → Indexed
in_index w space records index (found digest) = with_index w space records index digest
in_index w space records index (stopped r) = refused r

-- ---- the room that the call needs where it is lent: a number for each 32 marks, of which a byte of the notes may need two; and what the notes
-- need to be written

abbrev pub marks_for : ℕ → ℕ
marks_for size = (size + 15) / 16

unfoldable pub index_work : Opts → List ℕ → ℕ
index_work o notes = marks_for (length notes) + work_for o notes

abbrev pub index_lending : ℕ → Limits
index_lending lends = record { bytes = most_lent; words = lent lends index_work }

-- ---- the call

-- the index under the options that a block means; of a faulty block none is asked
abbrev pub index_under : List ℕ → List ℕ → Result Options Fault → List Record
index_under block notes (Err f) = []
index_under block notes (Ok o) = index_of (meant block o) notes

unfoldable pub indexing : Limits → List ℕ → List ℕ → ℕ → ℕ → Indexed
indexing l block notes space records = in_index l.words space records (index_under block notes (read_block block)) (finding l block notes)
