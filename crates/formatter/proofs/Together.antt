-- Measuring and writing: together they are the call; measuring's N is the room that suffices, and the least.
use Rattle.std.proofs.Common.{Option, Some, None, Result, Ok, Err}
use mathlib.Core.Path.{◌≡◌, refl, ap}
use mathlib.Core.Bool.{Bool, true, false, cond}
use mathlib.Core.List.{List}
use Prim.Native.Nat.{ℕ, ◌≤◌, ◌<◌}
use native.Mathlib.Omega.{arith}
use lib.Dec.{leb, ltb}
use lib.ListN.{length}
use borrow.Author.Tests.{le-leb, lt-leb, leb-true}
use Rattle.options.specs.Opts.{Opts, meant}
use Rattle.options.specs.OptionBlock.{read_block}
use Rattle.options.specs.declared.Fault.{Fault}
use Rattle.options.specs.declared.Options.{Options}
use Rattle.pieces.specs.Pieces.{pieces}
use Rattle.formatter.specs.Answers.{Answer, done, refused, room, answer_coded}
use Rattle.formatter.specs.declared.Refusal.{Refusal}
use Rattle.formatter.specs.declared.Refusal.TheVariants.{Long}
use Rattle.walk.specs.Digest.{long_paragraph}
use Rattle.formatter.specs.Format.{up_to, Limits, limited, Finding, found, stopped, with_words, with_text, damage_in, with_notes, with_block, finding, answering, answer, measured, measuring, in_room, writing}

-- what writing answers, at once
in_room_keeps : (space : ℕ) (a : Answer) → 1 ≤ (answer_coded a).code → in_room space a ≡ a
in_room_keeps space (done digest) k = absurd (omega arith)
in_room_keeps space (refused r) k = refl
in_room_keeps space (room needed) k = refl

pub written_at_once : (l : Limits) (block notes : List ℕ) (space : ℕ) → writing l block notes space ≡ answering (λ d. in_room space (measured l.words d)) (finding l block notes)
unfolding writing measuring
written_at_once l block notes space = go (finding l block notes)
  where
    go : (f : Finding) → in_room space (answering (measured l.words) f) ≡ answering (λ d. in_room space (measured l.words d)) f
    go (found digest) = refl
    go (stopped r) = refl

-- Together they do what the old call did, for all inputs: it has limits such as those of RULES 2.2.
pub together_they_do_what_the_old_call_did : (bytes most : ℕ) (block notes : List ℕ) (space : ℕ) → writing (limited bytes most) block notes space ≡ answer (limited bytes most) block notes space
unfolding answer
together_they_do_what_the_old_call_did bytes most block notes space = written_at_once (limited bytes most) block notes space

-- ---- the room

-- With an output of at least N bytes writing answers 0 and N ..
pub measured_room_suffices : (l : Limits) (block notes : List ℕ) (space : ℕ) (digest : List ℕ)
    → measuring l block notes ≡ done digest
    → length digest ≤ space
    → writing l block notes space ≡ done digest
unfolding writing
measured_room_suffices l block notes space digest m h = rw (m, le-leb (length digest) space h)

-- .. with less, 5 and N.
pub no_less_room_suffices : (l : Limits) (block notes : List ℕ) (space : ℕ) (digest : List ℕ)
    → measuring l block notes ≡ done digest
    → space < length digest
    → writing l block notes space ≡ room (length digest)
unfolding writing
no_less_room_suffices l block notes space digest m h = rw (m, lt-leb (length digest) space h)

-- What measuring refuses, writing refuses with the same code and the same N, whatever the room.
pub refusals_are_the_same : (l : Limits) (block notes : List ℕ) (space : ℕ)
    → 1 ≤ (answer_coded (measuring l block notes)).code
    → writing l block notes space ≡ measuring l block notes
unfolding writing
refusals_are_the_same l block notes space h = in_room_keeps space (measuring l block notes) h

-- What is refused before there is a digest, measuring refuses so.
pub what_is_refused_is_measured_so : (l : Limits) (block notes : List ℕ) (r : Refusal) → finding l block notes ≡ stopped r → measuring l block notes ≡ refused r
unfolding measuring
what_is_refused_is_measured_so l block notes r e = ap (answering (measured l.words)) e

-- And a digest that is found is measured, if its length can be told.
pub what_is_found_is_measured : (l : Limits) (block notes digest : List ℕ) → finding l block notes ≡ found digest → measuring l block notes ≡ measured l.words digest
unfolding measuring
what_is_found_is_measured l block notes digest e = ap (answering (measured l.words)) e

-- With so many words to a paragraph measuring never answers 5.
module _ (bytes most : ℕ) where
  notes_measured : (o : Opts) (notes : List ℕ) → (answer_coded (answering done (with_notes (limited bytes most) o notes))).code ≤ 4
  notes_measured o notes = size (ltb bytes (length notes))
    where
      count : (f : Option ℕ) → (answer_coded (answering done (with_words o notes f))).code ≤ 4
      count (Some place) = omega arith
      count None = omega arith

      damaged : (f : Option ℕ) → (answer_coded (answering done (with_text (up_to most) o notes f))).code ≤ 4
      damaged (Some place) = omega arith
      damaged None = count (long_paragraph most o 0 (pieces o notes))

      size : (b : Bool) → (answer_coded (answering done (elim b as (λ t. Finding) [ true ↦ stopped Long | false ↦ with_text (up_to most) o notes (damage_in o.keep notes) ]))).code ≤ 4
      size true = omega arith
      size false = damaged (damage_in o.keep notes)

  pub measuring_never_answers_five : (block notes : List ℕ) → (answer_coded (measuring (limited bytes most) block notes)).code ≤ 4
  unfolding measuring finding
  measuring_never_answers_five block notes = go (read_block block)
    where
      go : (b : Result Options Fault) → (answer_coded (answering done (with_block (limited bytes most) block notes b))).code ≤ 4
      go (Err fault) = omega arith
      go (Ok o) = notes_measured (meant block o) notes

-- ---- for callers

-- N is told alike, whatever the room
pub in_room_value : (space : ℕ) (a : Answer) → (answer_coded (in_room space a)).value ≡ (answer_coded a).value
in_room_value space (done digest) = pick (leb (length digest) space)
  where
    pick : (b : Bool) → (answer_coded (cond b (done digest) (room (length digest)))).value ≡ length digest
    pick true = refl
    pick false = refl
in_room_value space (refused r) = refl
in_room_value space (room needed) = refl

-- what is done in some room is what was measured, and fits
pub in_room_done : (space : ℕ) (a : Answer) (bytes : List ℕ) → in_room space a ≡ done bytes → (a ≡ done bytes) × (length bytes ≤ space)
in_room_done space (done digest) bytes e = pick (leb (length digest) space) refl e
  where
    pick : (b : Bool) → leb (length digest) space ≡ b → cond b (done digest) (room (length digest)) ≡ done bytes → (done digest ≡ done bytes) × (length bytes ≤ space)
    pick true l h = let q : digest ≡ bytes = cc in (h, rw (← q) (leb-true (length digest) space l))
    pick false l h = (cc, absurd (let z : ◌≡◌ {A = ℕ} 0 1 = cc in omega arith))
in_room_done space (refused r) bytes e = (e, absurd (let z : ◌≡◌ {A = ℕ} 0 1 = cc in omega arith))
in_room_done space (room needed) bytes e = (e, absurd (let z : ◌≡◌ {A = ℕ} 0 1 = cc in omega arith))
