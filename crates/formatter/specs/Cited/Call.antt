-- What the functions of the calls answer for: the code's answer, and what is told before any piece is looked at.
use denote.Bor.{Bor}
use Rattle.std.specs.Prelude.{◌≡◌, false, List, ℕ, ◌≤◌, length, None, Result, Ok, Err}
use Rattle.lists.specs.Coded.{Coded, coded}
use Rattle.text.specs.Characters.{damage}
use Rattle.options.specs.Opts.{Opts, meant}
use Rattle.options.specs.OptionBlock.{read_block}
use Rattle.options.specs.declared.Options.{Options}
use Rattle.walk.specs.Digest.{digest}
use Rattle.walk.specs.Work.{work_for}
use Rattle.formatter.specs.Format.{Words, Limits, Finding, found, stopped, within, with_notes, with_block, answering}
use Rattle.formatter.specs.Work.{lending}
use Rattle.walk.specs.declared.notes.Notes.{Notes}
use Rattle.formatter.specs.Answers.{Answer, done, refused, room, refusal_coded, output_refused, output_after}
use Rattle.formatter.specs.declared.Refusal.{Refusal}
use Rattle.formatter.specs.declared.Unwritten.{Unwritten}
use Rattle.formatter.specs.declared.Unwritten.TheVariants.{Refused, Room}

-- ---- the answer in code: without the digest's bytes, which are in the output

abbrev pub told : Answer → Result ℕ Unwritten
told (done digest) = Ok (length digest)
told (refused r) = Err (Refused r)
told (room needed) = Err (Room needed)

-- code and N, where it is no digest's length
abbrev pub unwritten_coded : Unwritten → Coded
unwritten_coded (Refused r) = refusal_coded r
unwritten_coded (Room needed) = coded 5 needed

-- what a function that gives the answer leaves after: the answer as told, and the output after it
pub record Answers (a : Answer) (out : List ℕ) (r : Result ℕ Unwritten) (out' : List ℕ) : Type 0 where
  pub is : r ≡ told a
  pub output : out' ≡ output_after a out

-- ---- codes 1 to 3, which are told before any piece is looked at

-- what is found is a refusal, of up to such a code, that leaves the output as it is
pub record Refuses (most : ℕ) (whole : Finding) (r : Refusal) : Type 0 where
  pub whole_is : whole ≡ stopped r
  pub untouched : (out : List ℕ) → output_refused r out ≡ out
  pub early : (refusal_coded r).code ≤ most

-- what is left to be told where none of them is due: code 4 or 12, or what becomes of the digest
abbrev pub left_of : Limits → Opts → List ℕ → (List ℕ → Answer) → Answer
left_of l o notes then = answering then (within l.words o notes)

abbrev pub AdmitsNotes : Limits → List ℕ → Options → List ℕ → Result (Unit {0}) Refusal → Type 0
AdmitsNotes l block o notes (Err r) = Refuses 3 (with_notes l (meant block o) notes) r
AdmitsNotes l block o notes (Ok t) = (length notes ≤ l.bytes) × (with_notes l (meant block o) notes ≡ within l.words (meant block o) notes) × (o.keep ≡ false → damage notes ≡ None)

-- these are the bytes of the block and the notes that were given
abbrev pub Of : List ℕ → List ℕ → Notes → Type 0
Of block notes n = (n.block.now ≡ block) × (n.bytes.now ≡ notes)

abbrev pub Admits : Limits → List ℕ → List ℕ → Result Notes Refusal → Type 0
Admits l block notes (Err r) = Refuses 3 (with_block l block notes (read_block block)) r
Admits l block notes (Ok n) = Of block notes n × (with_block l block notes (read_block block) ≡ within l.words (meant block n.options) notes) × (length notes ≤ l.bytes)

-- however many words a paragraph may have
abbrev pub AdmitsWithin : ℕ → List ℕ → List ℕ → Result Notes Refusal → Type 0
AdmitsWithin bytes block notes r = (w : Words) → Admits (record { bytes = bytes; words = w }) block notes r

-- ---- the same with code 12, where so many numbers are lent: with none of them due there is room for every paragraph

abbrev pub AdmitsLent : ℕ → List ℕ → List ℕ → Result Notes Refusal → Type 0
AdmitsLent lends block notes (Err r) = Refuses 12 (with_block (lending lends) block notes (read_block block)) r
AdmitsLent lends block notes (Ok n) =
    Of block notes n × (with_block (lending lends) block notes (read_block block) ≡ found (digest (meant block n.options) notes)) × (work_for (meant block n.options) notes ≤ lends)

-- ---- the slices that are passed on are themselves those that were given, and no others of the same bytes

abbrev pub Given : Bor (List ℕ) → Bor (List ℕ) → Result Notes Refusal → Type 0
Given block notes (Err r) = Unit {0}
Given block notes (Ok n) = (n.block ≡ block) × (n.bytes ≡ notes)
