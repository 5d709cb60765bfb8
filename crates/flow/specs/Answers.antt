-- RULES 17.1: what the writer answers. It refuses a well-formed block with prefix, crown, tagged or mail; its other refusals are
-- those of the writing call, in their order, with what is sent in the digest's place.
use Rattle.std.specs.Prelude.{Bool, true, false, cond, ◌||◌, List, ℕ, length, Option, Some, None, Result, Ok, Err}
use Rattle.options.specs.Opts.{Opts, meant}
use Rattle.options.specs.OptionBlock.{fields, part_of, number_at, bit, read_block}
use Rattle.options.specs.declared.Part.{Part}
use Rattle.options.specs.declared.Options.{Options}
use Rattle.options.specs.declared.Fault.{Fault}
use Rattle.pieces.specs.Pieces.{pieces}
use Rattle.formatter.specs.Answers.{Answer, done, refused, room}
use Rattle.formatter.specs.Format.{Words, Limits, with_notes, answering, with_digest, most_told, is_told}
use Rattle.formatter.specs.declared.Refusal.TheVariants.{Options as Faulty}
use Rattle.flow.specs.Flow.{mailed, flowed, dashes_in}

-- the block's own bits 0 to 2, whatever split makes of them, and a prefix given at all
abbrev pub is_given : Option Part → Bool
is_given None = false
is_given (Some p) = true

unfoldable pub flags_of : List ℕ → ℕ
flags_of block = number_at block 0 (part_of 1 (fields block))

unfoldable pub unfit : List ℕ → Bool
unfit block = bit 0 (flags_of block) || bit 1 (flags_of block) || bit 2 (flags_of block) || is_given (part_of 5 (fields block))

-- ---- the answers: the lowest number wins

-- what is answered with what is to be sent, in the digest's place
abbrev pub sent_in : Words → ℕ → List ℕ → Answer
sent_in w space bytes = cond (is_told w (length bytes)) (with_digest space bytes) (room most_told)

abbrev pub sent_notes : Limits → ℕ → Opts → List ℕ → Answer
sent_notes l space o notes = answering (λ d. sent_in l.words space (flowed o notes)) (with_notes l o notes)

-- the place of a block that is refused by the writer alone is its length
abbrev pub sent_block : Limits → ℕ → List ℕ → List ℕ → Result Options Fault → Answer
sent_block l space block notes (Err f) = refused (Faulty f.at)
sent_block l space block notes (Ok o) = elim (unfit block) [ true ↦ refused (Faulty (length block)) | false ↦ sent_notes l space (mailed (meant block o)) notes ]

-- what is answered with an output slice of so many bytes; its number and the output afterwards are those of the answers of RULES 2
unfoldable pub flow : Limits → List ℕ → List ℕ → ℕ → Answer
flow l block notes space = sent_block l space block notes (read_block block)

-- and the count of lines `--`, which is 0 on a refusal
abbrev pub counted_by : Answer → List ℕ → List ℕ → Result Options Fault → ℕ
counted_by (done bytes) block notes (Ok o) = let m = mailed (meant block o) in dashes_in m (pieces m notes)
counted_by (done bytes) block notes (Err f) = 0
counted_by (refused r) block notes b = 0
counted_by (room needed) block notes b = 0

unfoldable pub dashes_of : Limits → List ℕ → List ℕ → ℕ → ℕ
dashes_of l block notes space = counted_by (flow l block notes space) block notes (read_block block)
