-- What an answer tells has no more than 32 bits: a fault's place is small, other places lie in the notes, and a digest has at most 1,040 bytes
-- for each byte of the notes, if no paragraph has more words than RULES 2.2 allows; if working room is lent for more, a longer digest
-- is refused. So code and value can be read back from the number.
use Rattle.std.proofs.Common.{Option, Some, None, Result, Ok, Err}
use mathlib.Core.Path.{◌≡◌, refl, sym, ap, ◌∙◌}
use mathlib.Core.Bool.{Bool, true, false, cond, ◌||◌}
use mathlib.Core.List.{List, [], ◌∷◌}
use Prim.Native.Nat.{ℕ, zero, suc, ◌+◌, ◌*◌, ◌/◌, ◌%◌, ◌^◌, ◌≤◌, ◌<◌}
use native.Mathlib.Omega.{arith}
use lib.Dec.{leb, ltb}
use lib.ListN.{length, length-append}
use lib.Seq.{slice, length-slice}
use borrow.Author.Tests.{leb-true, le-ltb, ltb-true, ltb-false}
use Rattle.lists.specs.Runs.{joined}
use Rattle.lists.proofs.Parts.{joined_cons}
use Rattle.text.proofs.Damage.{damage_some}
use Rattle.options.specs.Opts.{Opts, meant}
use Rattle.options.specs.OptionBlock.{read_block}
use Rattle.options.specs.declared.Fault.{Fault}
use Rattle.options.specs.declared.Options.{Options}
use Rattle.options.proofs.Accepted.{accepted}
use Rattle.lines.specs.Cited.Places.{most_large}
use Rattle.pieces.specs.Pieces.{Piece, Kind, blank_line, plain_line, paragraph, pieces}
use Rattle.pieces.specs.Cited.Places.{piece_at}
use Rattle.pieces.specs.declared.Piece.{Piece as PieceAt}
use Rattle.pieces.specs.declared.Piece.TheVariants.{Blank as BlankAt, Plain as PlainAt, Text}
use Rattle.pieces.proofs.Meaning.{means, bounded}
use Rattle.words.specs.Words.{words_of}
use Rattle.output.specs.Emission.{line_feed}
use Rattle.lists.specs.Coded.{Coded, numbered, result_coded}
use Rattle.formatter.specs.Answers.{Answer, done, refused, room, refusal_coded, answer_coded}
use Rattle.formatter.specs.declared.Refusal.{Refusal}
use Rattle.formatter.specs.declared.Refusal.TheVariants.{Options as Faulty, Long, Text as Damaged, Words as Many, Work}
use Rattle.walk.specs.Digest.{most_words, output_of, extent_of, too_many, digest, long_paragraph}
use Rattle.formatter.specs.Format.{Words, up_to, lent, Limits, most_bytes, own_room, Finding, found, stopped, with_words, within, with_text, damage_in, with_notes, with_block, finding, answering, answer, most_told, measured, measuring, writing}
use Rattle.walk.specs.Cited.Course.{output_from, long_from, FirstPiece}
use Rattle.formatter.specs.Cited.Call.{told, unwritten_coded}
use Rattle.formatter.proofs.Together.{together_they_do_what_the_old_call_did, what_is_refused_is_measured_so, what_is_found_is_measured, in_room_value}
use Rattle.formatter.proofs.Answers.{Enough}
use Rattle.walk.proofs.Meaning.{PieceGoes, piece_goes}
use Rattle.walk.proofs.Bound.{formatted_most}
use Rattle.walk.proofs.Extents.{extents_are_notes}
use Rattle.formatter.proofs.Faults.{fault_small}
use Rattle.walk.proofs.Loop.{all_output, all_long, output_none, output_more, long_more, long_here}

-- ---- a piece

-- the next piece, and how long its output gets
record Next (o : Opts) (nextMail : Bool) (notes : List ℕ) (at : ℕ) : Type 0 where
  kind : Kind
  state : Bool
  next : ℕ
  goes : FirstPiece o nextMail notes at kind state next
  bounded : too_many most_words o kind ≡ false → length (output_of o kind) + 1040 * at ≤ 1040 * next

next_of : (o : Opts) (nextMail : Bool) (notes : List ℕ) (at : ℕ) (r : PieceAt) → PieceGoes o nextMail notes at r → Next o nextMail notes at
unfolding output_of
next_of o nextMail notes at (BlankAt next) g = record { kind = blank_line; state = true; next = next; goes = g; bounded = λ few. omega (arith, g.on) }
next_of o nextMail notes at (PlainAt end next) g =
    let l = length-slice at end notes (omega (arith, g.2, g.0.within)) in
    let a = length-append (slice at end notes) line_feed in
    record { kind = plain_line (slice at end notes); state = false; next = next; goes = g.0; bounded = λ few. omega (arith, g.0.on, g.1, g.2) }
next_of o nextMail notes at (Text p) t = record {
  kind = paragraph t.paragraph_is;
  state = p.mail;
  next = p.next;
  goes = t.goes;
  bounded = λ few. formatted_most o notes at p t.paragraph_is t.text t.bounds (ltb-false most_words (length (words_of o t.paragraph_is)) few);
}

-- ---- the notes

module _ (o : Opts) (notes : List ℕ) (least : 1 ≤ o.tab) (most : o.tab ≤ 100) (short : length notes ≤ most_large) (cleared : o.split ≡ true → (o.crown || o.tagged) ≡ false) where
  -- from a place on: the output's length
  abbrev Small : (nextMail : Bool) (at : ℕ) → Type 0
  Small nextMail at = long_from most_words o nextMail notes at ≡ None → length (output_from o nextMail notes at) + 1040 * at ≤ 1040 * length notes

  small_past : (nextMail : Bool) (at : ℕ) → at ≤ length notes → length notes ≤ at → Small nextMail at
  small_past nextMail at h k e = rw (output_none o nextMail notes at k) (omega arith)

  small_more : (nextMail : Bool) (at : ℕ) → at < length notes → (n : Next o nextMail notes at) → Small n.state n.next → Small nextMail at
  small_more nextMail at h n s e = go (too_many most_words o n.kind) refl
    where
      go : (t : Bool) → too_many most_words o n.kind ≡ t → length (output_from o nextMail notes at) + 1040 * at ≤ 1040 * length notes
      go true t = absurd (let q = long_here most_words o n.goes t in let z : ◌≡◌ {A = ℕ} 0 1 = cc in omega arith)
      go false t = rw (output_more o n.goes, length-append) (omega (arith, n.bounded t, s (sym (long_more most_words o n.goes t) ∙ e)))

  small : (k : ℕ) (nextMail : Bool) (at : ℕ) → at ≤ length notes → length notes ≤ at + k → Small nextMail at
  small zero nextMail at h k = small_past nextMail at h (omega arith)
  small (suc k) nextMail at h g = go (ltb at (length notes)) refl (small k)
    where
      go : (t : Bool) → ltb at (length notes) ≡ t → ((m : Bool) (i : ℕ) → i ≤ length notes → length notes ≤ i + k → Small m i) → Small nextMail at
      go false t rest = small_past nextMail at h (ltb-false at (length notes) t)
      go true t rest =
          let i = ltb-true at (length notes) t in
          let r = piece_at o nextMail notes at in
          let n = next_of o nextMail notes at r (piece_goes o nextMail notes at r (means o nextMail notes at i least most short cleared) (bounded o nextMail notes at i least most short cleared)) in
          small_more nextMail at i n (rest n.state n.next n.goes.within (omega (arith, n.goes.on)))

  -- without a paragraph of too many words, the digest has at most so many bytes for each byte of the notes
  pub digest_most : long_paragraph most_words o 0 (pieces o notes) ≡ None → length (digest o notes) ≤ 1040 * length notes
  digest_most e = let s = small (length notes) true 0 (omega arith) (omega arith) (all_long most_words o notes ∙ e) in omega (arith, ap length (all_output o notes))

-- ---- a paragraph of too many words

-- it lies in the notes
long_place : (most : ℕ) (o : Opts) (place : ℕ) (qs : List Piece) (n : ℕ) → long_paragraph most o place qs ≡ Some n → n ≤ place + length (joined extent_of qs)
unfolding long_paragraph
long_place most o place [] n e = absurd (let z : ◌≡◌ {A = ℕ} 0 1 = cc in omega arith)
long_place most o place (q ∷ qs) n e = go (too_many most o q.kind) e (long_place most o (place + length (extent_of q)) qs n)
  where
    go : (t : Bool) → elim t as (λ x. (Option ℕ)) [ true ↦ Some place | false ↦ long_paragraph most o (place + length (extent_of q)) qs ] ≡ Some n
        → (long_paragraph most o (place + length (extent_of q)) qs ≡ Some n → n ≤ place + length (extent_of q) + length (joined extent_of qs)) → n ≤ place + length (joined extent_of (q ∷ qs))
    go true k rest = let z : place ≡ n = cc in omega arith
    go false k rest = let r = rest k in rw (joined_cons extent_of q qs, length-append) (omega (arith, r))

pub long_within : (most : ℕ) (o : Opts) (notes : List ℕ) (n : ℕ) → long_paragraph most o 0 (pieces o notes) ≡ Some n → n ≤ length notes
long_within most o notes n e = let p = long_place most o 0 (pieces o notes) n e in omega (arith, p, ap length (extents_are_notes o notes))

-- where none has more than so many words, none has more than a greater number
pub long_fewer : (most more : ℕ) (o : Opts) (place : ℕ) (qs : List Piece) → most ≤ more → long_paragraph most o place qs ≡ None → long_paragraph more o place qs ≡ None
unfolding long_paragraph
long_fewer most more o place [] h e = refl
long_fewer most more o place (q ∷ qs) h e = go (too_many most o q.kind) refl e (long_fewer most more o (place + length (extent_of q)) qs h)
  where
    fewer : (k : Kind) → too_many most o k ≡ false → too_many more o k ≡ false
    fewer blank_line t = refl
    fewer (plain_line line) t = refl
    fewer (paragraph p) t = le-ltb more (length (words_of o p)) (let f = ltb-false most (length (words_of o p)) t in omega arith)

    go : (t : Bool) → too_many most o q.kind ≡ t → elim t as (λ x. (Option ℕ)) [ true ↦ Some place | false ↦ long_paragraph most o (place + length (extent_of q)) qs ] ≡ None
        → (long_paragraph most o (place + length (extent_of q)) qs ≡ None → long_paragraph more o (place + length (extent_of q)) qs ≡ None) → long_paragraph more o place (q ∷ qs) ≡ None
    go true t k rest = absurd (let z : ◌≡◌ {A = ℕ} 0 1 = cc in omega arith)
    go false t k rest = rw (long_paragraph, fewer q.kind t) (rest k)

-- ---- limits

-- with which N can be told: no more notes than the code is proved for; and no more words to a paragraph than RULES 2.2 has, or a need that
-- can be told
abbrev pub Modest : Words → ℕ → Type 0
Modest (up_to most) bytes = most ≤ most_words
Modest (lent lends need) bytes = (o : Opts) (notes : List ℕ) → length notes ≤ bytes → need o notes ≤ most_told

pub record Sound (l : Limits) : Type 0 where
  pub short : l.bytes ≤ most_large
  pub modest : Modest l.words l.bytes

pub own_room_sound : Sound own_room
own_room_sound = record { short = omega arith; modest = omega arith }

-- ---- what is refused, and what becomes of the digest

module _ (l : Limits) (sound : Sound l) where
  module _ (o : Opts) (notes : List ℕ) (short : length notes ≤ l.bytes) (then : List ℕ → Answer) (fits : Enough l.words o notes → (answer_coded (then (digest o notes))).value ≤ most_told) where
    words_value : (most : ℕ) (f : Option ℕ) → long_paragraph most o 0 (pieces o notes) ≡ f → (f ≡ None → (answer_coded (then (digest o notes))).value ≤ most_told) → (answer_coded (answering then (with_words o notes f))).value ≤ most_told
    words_value most (Some n) e h = omega (arith, long_within most o notes n e, short, sound.short)
    words_value most None e h = h refl

    work_value : (lends needed : ℕ) → needed ≤ most_told → (b : Bool) → ltb lends needed ≡ b → (needed ≤ lends → (answer_coded (then (digest o notes))).value ≤ most_told)
        → (answer_coded (answering then (elim b as (λ t. Finding) [ true ↦ stopped (Work needed) | false ↦ found (digest o notes) ]))).value ≤ most_told
    work_value lends needed m true e h = m
    work_value lends needed m false e h = h (ltb-false lends needed e)

    within_value : (w : Words) → Modest w l.bytes → (Enough w o notes → (answer_coded (then (digest o notes))).value ≤ most_told) → (answer_coded (answering then (within w o notes))).value ≤ most_told
    within_value (up_to most) m h = words_value most (long_paragraph most o 0 (pieces o notes)) refl h
    within_value (lent lends need) m h = work_value lends (need o notes) (m o notes short) (ltb lends (need o notes)) refl h

    text_value : (keep : Bool) (f : Option ℕ) → damage_in keep notes ≡ f → (answer_coded (answering then (with_text l.words o notes f))).value ≤ most_told
    text_value keep None e = within_value l.words sound.modest fits
    text_value true (Some n) e = absurd (let z : ◌≡◌ {A = ℕ} 0 1 = cc in omega arith)
    text_value false (Some n) e = omega (arith, (damage_some false notes n e).1, short, sound.short)

  -- notes within the limit or beyond it
  pub notes_value : (o : Opts) (notes : List ℕ) (then : List ℕ → Answer) → (length notes ≤ l.bytes → Enough l.words o notes → (answer_coded (then (digest o notes))).value ≤ most_told) → (answer_coded (answering then (with_notes l o notes))).value ≤ most_told
  notes_value o notes then fits = go (ltb l.bytes (length notes)) refl
    where
      go : (b : Bool) → ltb l.bytes (length notes) ≡ b → (answer_coded (answering then (elim b as (λ t. Finding) [ true ↦ stopped Long | false ↦ with_text l.words o notes (damage_in o.keep notes) ]))).value ≤ most_told
      go true t = omega arith
      go false t = let s = ltb-false l.bytes (length notes) t in text_value o notes s then (fits s) o.keep (damage_in o.keep notes) refl

  -- ---- measuring

  module _ (o : Opts) (notes : List ℕ) (least : 1 ≤ o.tab) (most : o.tab ≤ 100) (short : length notes ≤ l.bytes) (cleared : o.split ≡ true → (o.crown || o.tagged) ≡ false) where
    told_value : (b : Bool) (d : List ℕ) → leb (length d) most_told ≡ b → (answer_coded (cond b (done d) (room most_told))).value ≤ most_told
    told_value true d e = leb-true (length d) most_told e
    told_value false d e = omega arith

    digest_value : (w : Words) → Modest w l.bytes → Enough w o notes → (answer_coded (measured w (digest o notes))).value ≤ most_told
    digest_value (up_to more) m e =
        let d = digest_most o notes least most (omega (arith, short, sound.short)) cleared (long_fewer more most_words o 0 (pieces o notes) m e) in
        omega (arith, d, short, sound.short)
    digest_value (lent lends need) m e = told_value (leb (length (digest o notes)) most_told) (digest o notes) refl

  module _ (block notes : List ℕ) where
    pub measured_value : (answer_coded (measuring l block notes)).value ≤ most_told
    unfolding measuring finding meant
    measured_value = go (read_block block) refl
      where
        go : (b : Result Options Fault) → read_block block ≡ b → (answer_coded (answering (measured l.words) (with_block l block notes b))).value ≤ most_told
        go (Err fault) e = omega (arith, fault_small block fault.at e)
        go (Ok o) e =
            let k = accepted block o e in
            notes_value (meant block o) notes (measured l.words) (λ short enough. digest_value (meant block o) notes k.tab_least k.tab_most short k.split_clears l.words sound.modest enough)

    -- so is what is refused before there is a digest
    pub found_value : (r : Refusal) → finding l block notes ≡ stopped r → (refusal_coded r).value ≤ most_told
    found_value r e = rw (what_is_refused_is_measured_so l block notes r e) at measured_value

    -- and a digest that is found is told as it is measured
    pub found_told : (digest : List ℕ) → finding l block notes ≡ found digest → (answer_coded (measured l.words digest)).value ≤ most_told
    found_told digest e = rw (what_is_found_is_measured l block notes digest e) at measured_value

    -- ---- writing

    pub written_value : (space : ℕ) → (answer_coded (writing l block notes space)).value ≤ most_told
    unfolding writing
    written_value space = rw in_room_value measured_value

-- ---- reading the number

pub refusal_most : (r : Refusal) → (refusal_coded r).code ≤ 12
refusal_most (Faulty place) = omega arith
refusal_most Long = omega arith
refusal_most (Damaged place) = omega arith
refusal_most (Many place) = omega arith
refusal_most (Work needed) = omega arith

code_most : (a : Answer) → (answer_coded a).code ≤ 12
code_most (done digest) = omega arith
code_most (refused r) = refusal_most r
code_most (room needed) = omega arith

-- what has no more than 32 bits can be read back from a number, and the code above it: so from every call's
pub reads_back : (a : Coded) → a.value ≤ most_told → (numbered a / 2 ^ 32 ≡ a.code) × (numbered a % 2 ^ 32 ≡ a.value)
unfolding numbered
reads_back a h = (omega arith, omega arith)

-- Code and value can be read back from writing's number and from measuring's, whatever the block, the notes and the room ..
pub writing_tells_code_and_value : (l : Limits) → Sound l → (block notes : List ℕ) (space : ℕ)
    → (numbered (answer_coded (writing l block notes space)) / 2 ^ 32 ≡ (answer_coded (writing l block notes space)).code) × (numbered (answer_coded (writing l block notes space)) % 2 ^ 32 ≡ (answer_coded (writing l block notes space)).value)
writing_tells_code_and_value l sound block notes space = reads_back (answer_coded (writing l block notes space)) (written_value l sound block notes space)

pub measuring_tells_code_and_value : (l : Limits) → Sound l → (block notes : List ℕ)
    → (numbered (answer_coded (measuring l block notes)) / 2 ^ 32 ≡ (answer_coded (measuring l block notes)).code) × (numbered (answer_coded (measuring l block notes)) % 2 ^ 32 ≡ (answer_coded (measuring l block notes)).value)
measuring_tells_code_and_value l sound block notes = reads_back (answer_coded (measuring l block notes)) (measured_value l sound block notes)

-- .. and so from that of the call that RULES 2.2 has.
pub the_answer_tells_code_and_value : (block notes : List ℕ) (space : ℕ)
    → (numbered (answer_coded (answer own_room block notes space)) / 2 ^ 32 ≡ (answer_coded (answer own_room block notes space)).code) × (numbered (answer_coded (answer own_room block notes space)) % 2 ^ 32 ≡ (answer_coded (answer own_room block notes space)).value)
the_answer_tells_code_and_value block notes space = rw (← together_they_do_what_the_old_call_did most_bytes most_words block notes space) (writing_tells_code_and_value own_room own_room_sound block notes space)

-- ---- the code's number

pub told_coded : (a : Answer) → result_coded unwritten_coded (told a) ≡ answer_coded a
told_coded (done digest) = refl
told_coded (refused r) = refl
told_coded (room needed) = refl

small_fits : (a : Answer) → (answer_coded a).value ≤ most_told → numbered (result_coded unwritten_coded (told a)) < 2 ^ 64
unfolding numbered
small_fits a v = let c = code_most a in rw told_coded (omega arith)

pub measured_fits : (l : Limits) → Sound l → (block notes : List ℕ) → numbered (result_coded unwritten_coded (told (measuring l block notes))) < 2 ^ 64
measured_fits l sound block notes = small_fits (measuring l block notes) (measured_value l sound block notes)

pub written_fits : (l : Limits) → Sound l → (block notes : List ℕ) (space : ℕ) → numbered (result_coded unwritten_coded (told (writing l block notes space))) < 2 ^ 64
written_fits l sound block notes space = small_fits (writing l block notes space) (written_value l sound block notes space)
