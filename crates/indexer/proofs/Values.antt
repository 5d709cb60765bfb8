-- The number and the count of records that a reply tells, and that the number fits.
use Rattle.std.proofs.Common.{Result, Ok, Err}
use mathlib.Core.Path.{◌≡◌, refl, ap, ◌∙◌}
use mathlib.Core.Bool.{Bool, true, false, cond}
use mathlib.Core.List.{List}
use Prim.Native.Nat.{ℕ, ◌+◌, ◌*◌, ◌/◌, ◌%◌, ◌^◌, ◌≤◌, ◌<◌}
use native.Mathlib.Omega.{arith}
use lib.Dec.{leb, ltb}
use lib.ListN.{length}
use borrow.Author.Tests.{leb-true, ltb-false}
use Rattle.options.specs.Opts.{Opts, meant}
use Rattle.options.specs.OptionBlock.{read_block}
use Rattle.options.specs.declared.Options.{Options}
use Rattle.options.specs.declared.Fault.{Fault}
use Rattle.lists.specs.Coded.{numbered}
use Rattle.formatter.specs.Answers.{done as written, room as noRoom, answer_coded}
use Rattle.formatter.specs.Format.{Words, Limits, Finding, found, stopped, damage_in, with_text, with_block, finding, most_told, is_told, measured}
use Rattle.formatter.specs.declared.Refusal.TheVariants.{Long, Work}
use Rattle.walk.proofs.Work.{work_half}
use Rattle.formatter.proofs.Values.{Sound, found_value, found_told, refusal_most, reads_back}
use Rattle.formatter.proofs.Work.{asked_suffices}
use Rattle.index.specs.declared.Record.{Record}
use Rattle.indexer.specs.Answers.{Indexed, done, refused, full, room, index_coded, filled_after}
use Rattle.indexer.specs.Indexing.{with_output, with_index, in_index, index_work, index_lending, index_under, indexing}
use Rattle.indexer.specs.Cited.Noting.{told, filled_coded, told_filled, Indexes, Marked}
use Rattle.indexer.specs.declared.Filled.{Filled}
use Rattle.indexer.specs.declared.Unfilled.{Unfilled}
use Rattle.indexer.specs.declared.Told.{Told}
use Rattle.indexer.proofs.Laws.{few_records}

pub told_coded : (a : Indexed) → filled_coded (told a) ≡ index_coded a
told_coded (done digest index) = refl
told_coded (refused r) = refl
told_coded (full pieces) = refl
told_coded (room needed) = refl

pub told_filled_law : (a : Indexed) → told_filled (told a) ≡ filled_after a
told_filled_law (done digest index) = refl
told_filled_law (refused r) = refl
told_filled_law (full pieces) = refl
told_filled_law (room needed) = refl

-- no more records than there are
output_few : (b c : Bool) (rs : List Record) (d : List ℕ) (records : ℕ) → length rs ≤ records → filled_after (cond b (cond c (done d rs) (room (length d))) (room most_told)) ≤ records
output_few true true rs d records h = h
output_few true false rs d records h = omega arith
output_few false c rs d records h = omega arith

index_few : (w : Words) (space records : ℕ) (rs : List Record) (d : List ℕ) → filled_after (with_index w space records rs d) ≤ records
index_few w space records rs d = go (leb (length rs) records) refl
  where
    go : (a : Bool) → leb (length rs) records ≡ a → filled_after (cond a (with_output w space rs d) (full (length rs))) ≤ records
    go true e = output_few (is_told w (length d)) (leb (length d) space) rs d records (leb-true (length rs) records e)
    go false e = omega arith

filled_few : (w : Words) (space records : ℕ) (rs : List Record) (f : Finding) → filled_after (in_index w space records rs f) ≤ records
filled_few w space records rs (found d) = index_few w space records rs d
filled_few w space records rs (stopped r) = omega arith

pub told_few : (l : Limits) (block notes : List ℕ) (space records : ℕ) → filled_after (indexing l block notes space records) ≤ records
unfolding indexing
told_few l block notes space records = filled_few l.words space records (index_under block notes (read_block block)) (finding l block notes)

-- ---- what the answer tells

-- N is the digest's length, or the number of pieces, if nothing was refused before
output_value : (w : Words) (space : ℕ) (rs : List Record) (d : List ℕ) → (answer_coded (measured w d)).value ≤ most_told → (index_coded (with_output w space rs d)).value ≤ most_told
output_value w space rs d h = go (is_told w (length d)) (leb (length d) space) h
  where
    go : (b c : Bool) → (answer_coded (cond b (written d) (noRoom most_told))).value ≤ most_told → (index_coded (cond b (cond c (done d rs) (room (length d))) (room most_told))).value ≤ most_told
    go true true k = k
    go true false k = k
    go false c k = omega arith

index_value : (w : Words) (space records : ℕ) (rs : List Record) (d : List ℕ) → (answer_coded (measured w d)).value ≤ most_told → length rs ≤ most_told → (index_coded (with_index w space records rs d)).value ≤ most_told
index_value w space records rs d h k = go (leb (length rs) records)
  where
    go : (a : Bool) → (index_coded (cond a (with_output w space rs d) (full (length rs)))).value ≤ most_told
    go true = output_value w space rs d h
    go false = k

module _ (l : Limits) (sound : Sound l) (block notes : List ℕ) where
  notes_few : (d : List ℕ) (o : Opts) (b : Bool) → ltb l.bytes (length notes) ≡ b → elim b as (λ t. Finding) [ true ↦ stopped Long | false ↦ with_text l.words o notes (damage_in o.keep notes) ] ≡ found d → length notes ≤ most_told
  notes_few d o true h k = absurd (let z : ◌≡◌ {A = ℕ} 0 1 = cc in omega arith)
  notes_few d o false h k = let f = ltb-false l.bytes (length notes) h in omega (arith, f, sound.short)

  records_few : (d : List ℕ) (b : Result Options Fault) → with_block l block notes b ≡ found d → length (index_under block notes b) ≤ most_told
  records_few d (Err fault) e = omega arith
  records_few d (Ok o) e = let n = notes_few d (meant block o) (ltb l.bytes (length notes)) refl e in let f = few_records (meant block o) notes in omega (arith, n, f)

  pub indexed_value : (space records : ℕ) → (index_coded (indexing l block notes space records)).value ≤ most_told
  unfolding indexing finding
  indexed_value space records = go (finding l block notes) refl
    where
      go : (f : Finding) → finding l block notes ≡ f → (index_coded (in_index l.words space records (index_under block notes (read_block block)) f)).value ≤ most_told
      go (found d) e = index_value l.words space records (index_under block notes (read_block block)) d (found_told l sound block notes d e) (records_few d (read_block block) e)
      go (stopped r) e = found_value l sound block notes r e

code_most : (a : Indexed) → (index_coded a).code ≤ 12
code_most (done digest index) = omega arith
code_most (refused r) = refusal_most r
code_most (full pieces) = omega arith
code_most (room needed) = omega arith

pub told_fits : (l : Limits) → Sound l → (block notes : List ℕ) (space records : ℕ) → numbered (filled_coded (told (indexing l block notes space records))) < 2 ^ 64
unfolding numbered
told_fits l sound block notes space records =
    let c = code_most (indexing l block notes space records) in
    let v = indexed_value l sound block notes space records in
    rw told_coded (omega (arith, c, v))

-- Code and value can be read back from the number, whatever the limits, the block, the notes, the room and the records.
pub indexing_tells_code_and_value : (l : Limits) → Sound l → (block notes : List ℕ) (space records : ℕ)
    → (numbered (index_coded (indexing l block notes space records)) / 2 ^ 32 ≡ (index_coded (indexing l block notes space records)).code) × (numbered (index_coded (indexing l block notes space records)) % 2 ^ 32 ≡ (index_coded (indexing l block notes space records)).value)
indexing_tells_code_and_value l sound block notes space records = reads_back (index_coded (indexing l block notes space records)) (indexed_value l sound block notes space records)

-- ---- lent room

-- Never more than 8 numbers for each byte of the notes and one ..
pub index_work_most : (o : Opts) (notes : List ℕ) → index_work o notes ≤ 8 * (length notes + 1)
unfolding index_work
index_work_most o notes = go o.quick (work_half o notes)
  where
    go : (b : Bool) → {w : ℕ} → w ≤ cond b 7 15 * ((length notes + 1) / 2) → (length notes + 15) / 16 + w ≤ 8 * (length notes + 1)
    go true h = omega (arith, h)
    go false h = omega (arith, h)

-- .. so N can be told.
pub index_lending_sound : (lends : ℕ) → Sound (index_lending lends)
index_lending_sound lends = record { short = omega arith; modest = λ o notes h. let w = index_work_most o notes in omega (arith, w, h) }

-- With the room that the call asks for it is not refused so again, whatever the output and the records.
module _ (block notes : List ℕ) where
  told_never : (w : Words) (space records : ℕ) (index : List Record) (digest : List ℕ) (n : ℕ) → with_index w space records index digest ≡ refused (Work n) → ⊥
  told_never w space records index digest n e = go (leb (length index) records) (is_told w (length digest)) (leb (length digest) space) e
    where
      go : (a b c : Bool) → cond a (cond b (cond c (done digest index) (room (length digest))) (room most_told)) (full (length index)) ≡ refused (Work n) → ⊥
      go true true true k = let z : ◌≡◌ {A = ℕ} 0 1 = cc in omega arith
      go true true false k = let z : ◌≡◌ {A = ℕ} 0 1 = cc in omega arith
      go true false c k = let z : ◌≡◌ {A = ℕ} 0 1 = cc in omega arith
      go false b c k = let z : ◌≡◌ {A = ℕ} 0 1 = cc in omega arith

  indexed_found : (lends space records n : ℕ) → indexing (index_lending lends) block notes space records ≡ refused (Work n) → finding (index_lending lends) block notes ≡ stopped (Work n)
  unfolding indexing
  indexed_found lends space records n e = go (finding (index_lending lends) block notes) e
    where
      go : (f : Finding) → in_index (index_lending lends).words space records (index_under block notes (read_block block)) f ≡ refused (Work n) → f ≡ stopped (Work n)
      go (found digest) k = absurd (told_never (index_lending lends).words space records (index_under block notes (read_block block)) digest n k)
      go (stopped r) k = let q : r ≡ Work n = cc in ap stopped q

  pub the_room_asked_for_suffices_to_index : (lends space records needed more other list : ℕ) → indexing (index_lending lends) block notes space records ≡ refused (Work needed) → needed ≤ more
      → (n : ℕ) → indexing (index_lending more) block notes other list ≡ refused (Work n) → ⊥
  the_room_asked_for_suffices_to_index lends space records needed more other list e h n f =
      asked_suffices block notes index_work lends needed more (indexed_found lends space records needed e) h n (indexed_found more other list n f)

-- ---- what is told of an answer

pub marked : {a : Indexed} {out out' table : List ℕ} {records filled' : ℕ} {r : Result Filled Unfilled} {t : Told} → Indexes a out r out' table → filled_after a ≤ records
    → (t.answer ≡ numbered (filled_coded r)) × (t.records ≡ told_filled r) × (filled' ≡ told_filled r) → Marked a records out out' filled' table t
marked {a} i h e =
    let count = e.1 ∙ ap told_filled i.is ∙ told_filled_law a in
    record {
      answer = e.0 ∙ ap (λ (q : Result Filled Unfilled). numbered (filled_coded q)) i.is ∙ ap numbered (told_coded a);
      output = i.output;
      filled = e.2 ∙ ap told_filled i.is ∙ told_filled_law a;
      count = count;
      few = rw count h;
      read = rw count i.read;
    }
