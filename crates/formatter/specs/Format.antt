-- RULES 2.2: from option block, notes and output slice to the answer.
use Rattle.std.specs.Prelude.{Bool, true, false, cond, List, ℕ, leb, ltb, length, Option, Some, None, Result, Ok, Err}
use Rattle.text.specs.Characters.{damage}
use Rattle.options.specs.Opts.{Opts, meant}
use Rattle.options.specs.OptionBlock.{read_block}
use Rattle.options.specs.declared.Fault.{Fault}
use Rattle.options.specs.declared.Options.{Options}
use Rattle.pieces.specs.Pieces.{pieces}
use Rattle.walk.specs.Digest.{most_words, digest, long_paragraph}
use Rattle.formatter.specs.Answers.{Answer, done, refused, room}
use Rattle.formatter.specs.declared.Refusal.{Refusal}
use Rattle.formatter.specs.declared.Refusal.TheVariants.{Options as Faulty, Long, Text, Words as Many, Work}

-- ---- the limits

-- how many words a paragraph may have: so many; or as many as there is working room for: so much is lent, and options and notes need so much
pub data Words : Type 0 where
  up_to : ℕ → Words
  lent : ℕ → (Opts → List ℕ → ℕ) → Words

-- how many bytes notes may have, and how many words a paragraph of them
pub record Limits : Type 0 where
  pub bytes : ℕ
  pub words : Words

abbrev pub limited : ℕ → ℕ → Limits
limited bytes most = record { bytes = bytes; words = up_to most }

-- those of the calls that have their own room (RULES 2.2): 65,536 bytes and 1,024 words
abbrev pub most_bytes : ℕ
most_bytes = 65536

abbrev pub own_room : Limits
own_room = limited most_bytes most_words

-- ---- what is found: the digest, or why there is none. The lowest number wins

pub data Finding : Type 0 where
  found : List ℕ → Finding
  stopped : Refusal → Finding

abbrev pub with_words : Opts → List ℕ → Option ℕ → Finding
with_words o notes (Some place) = stopped (Many place)
with_words o notes None = found (digest o notes)

abbrev pub with_work : Opts → List ℕ → ℕ → ℕ → Finding
with_work o notes lends needed = elim (ltb lends needed) [ true ↦ stopped (Work needed) | false ↦ found (digest o notes) ]

abbrev pub within : Words → Opts → List ℕ → Finding
within (up_to most) o notes = with_words o notes (long_paragraph most o 0 (pieces o notes))
within (lent lends need) o notes = with_work o notes lends (need o notes)

abbrev pub with_text : Words → Opts → List ℕ → Option ℕ → Finding
with_text w o notes (Some place) = stopped (Text place)
with_text w o notes None = within w o notes

-- keep on: damaged lines are plain lines
abbrev pub damage_in : Bool → List ℕ → Option ℕ
damage_in keep notes = elim keep [ true ↦ None | false ↦ damage notes ]

abbrev pub with_notes : Limits → Opts → List ℕ → Finding
with_notes l o notes = elim (ltb l.bytes (length notes)) [ true ↦ stopped Long | false ↦ with_text l.words o notes (damage_in o.keep notes) ]

abbrev pub with_block : Limits → List ℕ → List ℕ → Result Options Fault → Finding
with_block l block notes (Err fault) = stopped (Faulty fault.at)
with_block l block notes (Ok o) = with_notes l (meant block o) notes

unfoldable pub finding : Limits → List ℕ → List ℕ → Finding
finding l block notes = with_block l block notes (read_block block)

-- ---- the answers: `then` is what is answered with the digest

abbrev pub answering : (List ℕ → Answer) → Finding → Answer
answering then (found digest) = then digest
answering then (stopped r) = refused r

-- the answer to the call with an output slice of so many bytes
abbrev pub with_digest : ℕ → List ℕ → Answer
with_digest space bytes = cond (leb (length bytes) space) (done bytes) (room (length bytes))

unfoldable pub answer : Limits → List ℕ → List ℕ → ℕ → Answer
answer l block notes space = answering (with_digest space) (finding l block notes)

-- ---- RULES 11: room asked first, then written

-- N has 32 bits. With no more words to a paragraph than RULES 2.2 has no digest is longer (proofs/Values, `digest_most`); with more, one that
-- is longer is refused for want of room
abbrev pub most_told : ℕ
most_told = 4294967295

abbrev pub is_told : Words → ℕ → Bool
is_told (up_to most) n = true
is_told (lent lends need) n = leb n most_told

abbrev pub measured : Words → List ℕ → Answer
measured w digest = cond (is_told w (length digest)) (done digest) (room most_told)

-- what measuring answers, with no output slice: the digest is done, and its length is N
unfoldable pub measuring : Limits → List ℕ → List ℕ → Answer
measuring l block notes = answering (measured l.words) (finding l block notes)

-- what writing answers, from that and the room
abbrev pub in_room : ℕ → Answer → Answer
in_room space (done digest) = with_digest space digest
in_room space (refused r) = refused r
in_room space (room needed) = room needed

unfoldable pub writing : Limits → List ℕ → List ℕ → ℕ → Answer
writing l block notes space = in_room space (measuring l block notes)
