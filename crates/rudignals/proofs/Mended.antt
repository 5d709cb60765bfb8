-- RULES 14: formatting a mended copy never gives code 3. The mended copy is well formed by RFC 3629, and a text that is has no damaged place.
use Rattle.std.proofs.Common.{Option, Some, None, Result, Ok, Err}
use mathlib.Core.Path.{◌≡◌, refl, sym, ap, ◌∙◌}
use mathlib.Core.Bool.{Bool, true, false, cond, false≢true}
use mathlib.Core.List.{List, ◌∷◌}
use Prim.Native.Nat.{ℕ, ◌<◌}
use native.Mathlib.Omega.{arith}
use lib.Dec.{leb, ltb}
use lib.ListN.{length, get_or, take, drop, length-take}
use Rattle.lists.specs.Runs.{every}
use Rattle.lists.proofs.Parts.{every_nil, every_cons}
use Rattle.text.specs.Rfc3629.{Front, front, nothing, decode}
use Rattle.text.specs.Characters.{glyph, characters, is_good, damage}
use Rattle.text.proofs.Decoder.{sound}
use Rattle.text.proofs.Glyphs.{Bytes, characters_induct}
use Rattle.options.specs.Opts.{Opts, meant}
use Rattle.options.specs.OptionBlock.{read_block}
use Rattle.options.specs.declared.Options.{Options}
use Rattle.options.specs.declared.Fault.{Fault}
use Rattle.pieces.specs.Pieces.{pieces}
use Rattle.walk.specs.Digest.{digest, long_paragraph}
use Rattle.formatter.specs.Answers.{Answer, done, refused, room as lacking, answer_coded}
use Rattle.formatter.specs.Format.{Words, up_to, lent, Limits, Finding, found, stopped, with_words, within, with_text, damage_in, with_notes, with_block, finding, answering, with_digest, answer, most_told, is_told, measured, measuring, in_room, writing}
use Rattle.formatter.specs.declared.Refusal.TheVariants.{Long, Work}
use Rattle.salvage.specs.Lines.{is_utf8}
use Rattle.salvage.specs.Mending.{Change, mend, done as mended}
use Rattle.salvage.proofs.WellFormed.{formed_behind, ill_formed}
use Rattle.salvage.proofs.Theorems.{the_copy_is_well_formed}
use Rattle.rudignals.proofs.Undamaged.{Good, good_sound}

-- ---- a text that is well formed has no damaged place

read_good : (xs : List ℕ) (c n : ℕ) → decode xs ≡ front c n → ((glyph xs).bytes ≡ take n xs) × (is_good (glyph xs) ≡ true)
unfolding glyph
read_good xs c n e = (rw e, rw e)

formed_good : (xs : List ℕ) → is_utf8 xs ≡ true → Good xs
formed_good = characters_induct (λ ys gs. is_utf8 ys ≡ true → every is_good gs ≡ true) (λ w. every_nil is_good) more
  where
    more : (ys : List ℕ) (b : Bytes ys) → (is_utf8 (drop b.n ys) ≡ true → every is_good (characters (drop b.n ys)) ≡ true)
        → is_utf8 ys ≡ true → every is_good (glyph ys ∷ characters (drop b.n ys)) ≡ true
    more ys b rest w = go (decode ys) refl
      where
        go : (f : Front) → decode ys ≡ f → every is_good (glyph ys ∷ characters (drop b.n ys)) ≡ true
        go (front c n) e =
            let g = read_good ys c n e in
            let k : b.n ≡ n = omega (arith, b.count, ap length g.0, length-take n ys, (sound ys c n e).within) in
            rw (every_cons is_good (glyph ys) (characters (drop b.n ys)), g.1) (rest (rw k (sym (formed_behind ys c n e) ∙ w)))
        go nothing e = absurd (false≢true (sym (ill_formed ys (omega (arith, b.some, b.within)) e) ∙ w))

formed_sound : (xs : List ℕ) → is_utf8 xs ≡ true → damage xs ≡ None
formed_sound xs w = good_sound xs (formed_good xs w)

-- ---- so it is not refused as damaged, whatever the block and the room

module _ (l : Limits) (notes : List ℕ) (undamaged : damage notes ≡ None) where
  nothing_found : (keep : Bool) → damage_in keep notes ≡ None
  nothing_found true = refl
  nothing_found false = undamaged

  abbrev NotThree : Finding → Type 0
  NotThree f = (then : List ℕ → Answer) → ((d : List ℕ) → (answer_coded (then d)).code ≡ 3 → ⊥) → (answer_coded (answering then f)).code ≡ 3 → ⊥

  notes_three : (o : Opts) → NotThree (with_notes l o notes)
  notes_three o then never h = size (ltb l.bytes (length notes)) h
    where
      count : (f : Option ℕ) → (answer_coded (answering then (with_words o notes f))).code ≡ 3 → ⊥
      count (Some place) k = omega arith
      count None k = never (digest o notes) k

      lends : (needed : ℕ) (b : Bool) → (answer_coded (answering then (elim b as (λ t. Finding) [ true ↦ stopped (Work needed) | false ↦ found (digest o notes) ]))).code ≡ 3 → ⊥
      lends needed true k = omega arith
      lends needed false k = never (digest o notes) k

      enough : (w : Words) → (answer_coded (answering then (within w o notes))).code ≡ 3 → ⊥
      enough (up_to most) k = count (long_paragraph most o 0 (pieces o notes)) k
      enough (lent n need) k = lends (need o notes) (ltb n (need o notes)) k

      size : (b : Bool) → (answer_coded (answering then (elim b as (λ t. Finding) [ true ↦ stopped Long | false ↦ with_text l.words o notes (damage_in o.keep notes) ]))).code ≡ 3 → ⊥
      size true k = omega arith
      size false k = enough l.words (rw (nothing_found o.keep) at k)

  block_three : (block : List ℕ) (b : Result Options Fault) → NotThree (with_block l block notes b)
  block_three block (Err fault) then never h = omega arith
  block_three block (Ok o) then never h = notes_three (meant block o) then never h

-- nor is a digest, for want of room
fits : (d : List ℕ) (needed : ℕ) (t : Bool) → (answer_coded (cond t (done d) (lacking needed))).code ≡ 3 → ⊥
fits d needed true h = omega arith
fits d needed false h = omega arith

-- ---- in plain words

-- The notes are bytes, and mending them was done.
module _ (notes : List ℕ) (space entries : ℕ) (copy : List ℕ) (list : List Change)
    (bytes : (i : ℕ) → get_or notes i 0 < 256)
    (mends : mend notes space entries ≡ mended copy list) where
  copy_undamaged : damage copy ≡ None
  copy_undamaged = formed_sound copy (the_copy_is_well_formed notes space entries copy list bytes mends)

  -- Measuring the mended copy never gives code 3, whatever the limits ..
  pub measuring_a_mended_copy_never_gives_three : (l : Limits) (block : List ℕ) → (answer_coded (measuring l block copy)).code ≡ 3 → ⊥
  unfolding measuring finding
  measuring_a_mended_copy_never_gives_three l block = block_three l copy copy_undamaged block (read_block block) (measured l.words) (λ d h. fits d most_told (is_told l.words (length d)) h)

  -- .. and neither does formatting it, whatever the block and the room.
  pub formatting_a_mended_copy_never_gives_three : (l : Limits) (block : List ℕ) (room : ℕ) → (answer_coded (answer l block copy room)).code ≡ 3 → ⊥
  unfolding answer finding
  formatting_a_mended_copy_never_gives_three l block room = block_three l copy copy_undamaged block (read_block block) (with_digest room) (λ d h. fits d (length d) (leb (length d) room) h)

  -- .. and neither does writing it.
  pub writing_a_mended_copy_never_gives_three : (l : Limits) (block : List ℕ) (room : ℕ) → (answer_coded (writing l block copy room)).code ≡ 3 → ⊥
  unfolding writing
  writing_a_mended_copy_never_gives_three l block room = go (measuring l block copy) (measuring_a_mended_copy_never_gives_three l block)
    where
      go : (a : Answer) → ((answer_coded a).code ≡ 3 → ⊥) → (answer_coded (in_room room a)).code ≡ 3 → ⊥
      go (done d) never h = fits d (length d) (leb (length d) room) h
      go (refused r) never h = never h
      go (lacking needed) never h = never h
