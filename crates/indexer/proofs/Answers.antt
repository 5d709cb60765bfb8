-- What the call answers, where the pieces came to an end or did not.
use Rattle.std.proofs.Common.{Option, Some, None, Result, Ok, Err}
use mathlib.Core.Path.{◌≡◌, refl, sym, ap, subst, ◌∙◌}
use mathlib.Core.Bool.{Bool, true, false, cond}
use mathlib.Core.List.{List}
use Prim.Native.Nat.{ℕ, ◌+◌, ◌-◌, ◌*◌, ◌^◌, ◌≤◌, ◌<◌, max}
use native.Mathlib.Omega.{arith}
use lib.ListN.{length, replicate}
use lib.Dec.{leb, ltb}
use borrow.Author.Tests.{le-leb, lt-leb, le-ltb, lt-ltb, ltb-true, ltb-false}
use Rattle.std.specs.Result.{is_err}
use Rattle.options.specs.Opts.{Opts, meant}
use Rattle.options.specs.OptionBlock.{read_block}
use Rattle.options.specs.declared.Options.{Options}
use Rattle.options.specs.declared.Fault.{Fault}
use Rattle.lines.specs.Cited.Places.{most_large}
use Rattle.pieces.specs.Pieces.{pieces}
use Rattle.output.proofs.Sink.{written_fits, wrote_length}
use Rattle.walk.specs.Digest.{most_words, digest, long_paragraph}
use Rattle.formatter.specs.declared.Refusal.{Refusal}
use Rattle.formatter.specs.declared.Refusal.TheVariants.{Words, Work}
use Rattle.walk.specs.Cited.Course.{Admitted}
use Rattle.walk.specs.declared.notes.Notes.{Notes}
use Rattle.walk.specs.declared.Stopped.{Stopped}
use Rattle.walk.specs.Work.{work_for}
use Rattle.walk.proofs.Loop.{all_long}
use Rattle.walk.proofs.Lent.{enough}
use Rattle.walk.proofs.Work.{work_most}
use Rattle.walk.proofs.Steps.{ready_kept}
use Rattle.paragraphs.specs.Cited.Steps.{room_for}
use Rattle.formatter.specs.Format.{Limits, most_bytes, own_room, Finding, found, stopped, with_words, with_block, finding, most_told}
use Rattle.formatter.specs.Cited.Call.{Admits}
use Rattle.formatter.proofs.Values.{digest_most}
use Rattle.marks.specs.Cited.Marks.{marks_in}
use Rattle.index.specs.Cited.Lists.{no_record}
use Rattle.index.specs.Cited.Reading.{front, read_from}
use Rattle.indexer.specs.Index.{index_of}
use Rattle.indexer.specs.Answers.{done, refused, full, room, index_output_after}
use Rattle.indexer.specs.Indexing.{with_index, in_index, marks_for, index_work, index_lending, index_under, indexing}
use Rattle.indexer.specs.declared.Filled.{Filled}
use Rattle.indexer.specs.Cited.Noting.{Noted, Indexes, left_of, numbering, found_of, fitted}
use Rattle.indexer.specs.declared.Pieces.{Pieces}
use Rattle.indexer.specs.declared.Unfilled.{Unfilled}
use Rattle.indexer.specs.declared.Unfilled.TheVariants.{Refused, Full, Room}

-- ---- from what the pieces came to

module _ (most : ℕ) (o : Opts) (notes out : List ℕ) where
  pub words_answer : (records place size : ℕ) (out'' work' : List ℕ) → long_paragraph most o 0 (pieces o notes) ≡ Some place → size ≡ length out → out'' ≡ replicate size 0
      → Indexes (found_of most o notes (length out) records) out (Err (Refused (Words place))) out'' work'
  unfolding index_output_after read_from
  words_answer records place size out'' work' e l z = record { is = rw e; output = rw e (z ∙ ap (λ (k : ℕ). replicate k 0) l); read = rw e }

  module _ (out' work' : List ℕ) where
    module _ (records n k : ℕ) (noted : Noted most o notes out out' work' (Ok (record { written = n; pieces = k }))) where
      count_is : k ≡ length (index_of o notes)
      count_is = noted.2

      length_is : n ≡ length (digest o notes)
      length_is = let c = noted.1.count in omega (arith, c)

      same_out : length out' ≡ length out
      same_out = wrote_length noted.1

      left_is : found_of most o notes (length out) records ≡ with_index numbering (length out) records (index_of o notes) (digest o notes)
      left_is = rw noted.0

      pub full_answer : (out'' : List ℕ) → records < k → out'' ≡ replicate (length out') 0 → Indexes (found_of most o notes (length out) records) out (Err (Full k)) out'' work'
      unfolding index_output_after read_from
      full_answer out'' h z =
          let a : found_of most o notes (length out) records ≡ full (length (index_of o notes)) = left_is ∙ rw (lt-leb (length (index_of o notes)) records (omega (arith, h, count_is))) in
          record { is = rw (a, count_is); output = rw a (z ∙ ap (λ (m : ℕ). replicate m 0) same_out); read = rw a }

      -- the digest's length is more than N can tell
      pub untold_answer : (out'' : List ℕ) → k ≤ records → most_told < n → out'' ≡ replicate (length out') 0 → Indexes (found_of most o notes (length out) records) out (Err (Room most_told)) out'' work'
      unfolding index_output_after read_from
      untold_answer out'' h g z =
          let a : found_of most o notes (length out) records ≡ room most_told =
          left_is ∙ rw (le-leb (length (index_of o notes)) records (omega (arith, h, count_is)), lt-leb (length (digest o notes)) most_told (omega (arith, g, length_is))) in
          record { is = rw a; output = rw a (z ∙ ap (λ (m : ℕ). replicate m 0) same_out); read = rw a }

      module _ (few : k ≤ records) (short : n ≤ most_told) where
        told_is : found_of most o notes (length out) records ≡ cond (leb (length (digest o notes)) (length out)) (done (digest o notes) (index_of o notes)) (room (length (digest o notes)))
        told_is = left_is ∙ rw (le-leb (length (index_of o notes)) records (omega (arith, few, count_is)), le-leb (length (digest o notes)) most_told (omega (arith, short, length_is)))

        pub room_answer : (out'' : List ℕ) → length out < n → out'' ≡ replicate (length out') 0 → Indexes (found_of most o notes (length out) records) out (Err (Room n)) out'' work'
        unfolding index_output_after read_from
        room_answer out'' g z =
            let a : found_of most o notes (length out) records ≡ room (length (digest o notes)) = told_is ∙ rw (lt-leb (length (digest o notes)) (length out) (omega (arith, g, length_is))) in
            record { is = rw (a, length_is); output = rw a (z ∙ ap (λ (m : ℕ). replicate m 0) same_out); read = rw a }

        pub done_answer : n ≤ length out → Indexes (found_of most o notes (length out) records) out (Ok (record { written = n; records = k })) out' work'
        unfolding index_output_after
        done_answer g =
            let a : found_of most o notes (length out) records ≡ done (digest o notes) (index_of o notes) = told_is ∙ rw (le-leb (length (digest o notes)) (length out) (omega (arith, g, length_is))) in
            record {
              is = rw (a, length_is, count_is);
              output = rw a (noted.1.bytes ∙ written_fits 0 out (digest o notes) (omega (arith, g, length_is)));
              read = rw a (ap (λ (m : ℕ). read_from (marks_in (front work')) m no_record) (sym count_is) ∙ noted.3 g);
            }

  -- the output is cleared where that is nothing
  pub fitted_answer : (records : ℕ) (out' work' : List ℕ) (r : Result Pieces Stopped) → Noted most o notes out out' work' r → (q : Result Filled Unfilled) → q ≡ fitted r records (length out')
      → (out'' : List ℕ) → (is_err q ≡ true → out'' ≡ replicate (length out') 0) → (is_err q ≡ false → out'' ≡ out') → Indexes (found_of most o notes (length out) records) out q out'' work'
  fitted_answer records out' work' (Err halt) n q e out'' clear keep = rw e (words_answer records halt.at (length out') out'' work' n.0 n.1 (clear (ap is_err e)))
  fitted_answer records out' work' (Ok p) n q e out'' clear keep = go (ltb records p.pieces) (ltb most_told p.written) (ltb (length out') p.written) refl refl refl e
    where
      go : (a b c : Bool) → ltb records p.pieces ≡ a → ltb most_told p.written ≡ b → ltb (length out') p.written ≡ c
          → q ≡ cond a (Err (Full p.pieces)) (cond b (Err (Room most_told)) (cond c (Err (Room p.written)) (Ok (record { written = p.written; records = p.pieces }))))
          → Indexes (found_of most o notes (length out) records) out q out'' work'
      go true b c x y z k = rw k (full_answer out' work' records p.written p.pieces n out'' (ltb-true records p.pieces x) (clear (ap is_err k)))
      go false true c x y z k = rw k (untold_answer out' work' records p.written p.pieces n out'' (ltb-false records p.pieces x) (ltb-true most_told p.written y) (clear (ap is_err k)))
      go false false true x y z k =
          let over = ltb-true (length out') p.written z in
          rw k (room_answer out' work' records p.written p.pieces n (ltb-false records p.pieces x) (ltb-false most_told p.written y) out'' (omega (arith, wrote_length n.1)) (clear (ap is_err k)))
      go false false false x y z k =
          let fits = ltb-false (length out') p.written z in
          rw (k, keep (ap is_err k)) (done_answer out' work' records p.written p.pieces n (ltb-false records p.pieces x) (ltb-false most_told p.written y) (omega (arith, wrote_length n.1)))

-- ---- the families

-- with the limits of RULES 2.2 no digest is longer than N can tell
module _ (block notes : List ℕ) (o : Options) (ready : Admitted block notes o) (short : length notes ≤ most_bytes) (space records : ℕ) where
  digest_told : long_paragraph most_words (meant block o) 0 (pieces (meant block o) notes) ≡ None → length (digest (meant block o) notes) ≤ most_told
  unfolding meant
  digest_told e =
      let k = ready_kept block notes o ready in
      let d = digest_most (meant block o) notes k.tab_least k.tab_most ready.short k.split_clears e in
      omega (arith, d, short)

  pub found_own_room : found_of most_words (meant block o) notes space records ≡ left_of own_room (meant block o) notes space records
  found_own_room = go (long_paragraph most_words (meant block o) 0 (pieces (meant block o) notes)) refl
    where
      go : (f : Option ℕ) → long_paragraph most_words (meant block o) 0 (pieces (meant block o) notes) ≡ f
          → in_index numbering space records (index_of (meant block o) notes) (with_words (meant block o) notes f) ≡ in_index own_room.words space records (index_of (meant block o) notes) (with_words (meant block o) notes f)
      go (Some place) e = refl
      go None e = rw (le-leb (length (digest (meant block o) notes)) most_told (digest_told e))

-- where room is lent there is enough for every paragraph, or the call is refused
module _ (o : Opts) (notes : List ℕ) (space records lends : ℕ) where
  pub found_lent : (most : ℕ) → long_paragraph most o 0 (pieces o notes) ≡ None → index_work o notes ≤ lends → found_of most o notes space records ≡ left_of (index_lending lends) o notes space records
  found_lent most e h =
      ap (λ (f : Option ℕ). in_index numbering space records (index_of o notes) (with_words o notes f)) e
      ∙ ap (λ (b : Bool). in_index (index_lending lends).words space records (index_of o notes) (elim b as (λ t. Finding) [ true ↦ stopped (Work (index_work o notes)) | false ↦ found (digest o notes) ])) (sym (le-ltb lends (index_work o notes) h))

  pub work_answer : (out table : List ℕ) (needed : ℕ) → needed ≡ index_work o notes → lends < needed → Indexes (left_of (index_lending lends) o notes space records) out (Err (Refused (Work needed))) out table
  unfolding index_output_after read_from
  work_answer out table needed e h =
      let a : left_of (index_lending lends) o notes space records ≡ refused (Work needed) =
      ap (λ (b : Bool). in_index (index_lending lends).words space records (index_of o notes) (elim b as (λ t. Finding) [ true ↦ stopped (Work (index_work o notes)) | false ↦ found (digest o notes) ])) (lt-ltb lends (index_work o notes) (omega (arith, e, h))) ∙ ap (λ (k : ℕ). refused (Work k)) (sym e) in
      record { is = rw a; output = rw a; read = rw a }

-- ---- the rooms

pub small_room : (quick : Bool) (marks n : ℕ) → n ≡ cond quick 7 15 * 1024 → room_for quick (marks + n - marks) ≡ most_words
unfolding room_for
small_room true marks n e = omega (arith, e)
small_room false marks n e = omega (arith, e)

pub small_indexes : (block notes : List ℕ) (o : Options) → Admitted block notes o → length notes ≤ most_bytes → (space records : ℕ) {most : ℕ} {out out' table : List ℕ} {r : Result Filled Unfilled} → most ≡ most_words
    → Indexes (found_of most (meant block o) notes space records) out r out' table → Indexes (left_of own_room (meant block o) notes space records) out r out' table
small_indexes block notes o ready short space records e i = rw (← found_own_room block notes o ready short space records) (rw e at i)

-- the greater of two, where it is more than the first
pub need_is : (least most n : ℕ) → n ≡ max least most → least < n → n ≡ most
need_is least most n e h = omega (arith, e, h)

pub lent_fits : (o : Opts) (notes : List ℕ) {marks n : ℕ} → marks ≡ marks_for (length notes) → n ≡ work_for o notes → length notes ≤ most_large → marks + n < 2 ^ 64
lent_fits o notes is need h = let w = work_most o notes in omega (arith, is, need, h, w)

-- what is lent: so many numbers are for marks, and what is left of it is for words
module _ (o : Opts) (notes : List ℕ) (space records lends marks n : ℕ) (is : marks ≡ marks_for (length notes)) where
  pub lent_refused : (out table : List ℕ) → n ≡ work_for o notes → lends < marks + n → Indexes (left_of (index_lending lends) o notes space records) out (Err (Refused (Work (marks + n)))) out table
  unfolding index_work
  lent_refused out table need h = work_answer o notes space records lends out table (marks + n) (omega (arith, is, need)) h

  pub lent_indexes : {out out' table : List ℕ} {r : Result Filled Unfilled} → marks ≤ lends → n ≡ max (lends - marks) (work_for o notes) → n ≤ lends - marks → Indexes (found_of (room_for o.quick (lends - marks)) o notes space records) out r out' table → Indexes (left_of (index_lending lends) o notes space records) out r out' table
  unfolding index_work
  lent_indexes order need h i =
      let e = sym (all_long (room_for o.quick (lends - marks)) o notes) ∙ enough o (lends - marks) notes (omega (arith, need, h)) in
      rw (← found_lent o notes space records lends (room_for o.quick (lends - marks)) e (omega (arith, is, need, h, order))) i

-- ---- what is told before

module _ (l : Limits) (block notes : List ℕ) where
  pub indexing_left : (n : Notes) (space records : ℕ) → Admits l block notes (Ok n) → indexing l block notes space records ≡ left_of l (meant n.block.now n.options) n.bytes.now space records
  unfolding indexing finding
  indexing_left n space records s =
      let accepted : read_block block ≡ Ok n.options = ap read_block (sym s.0.0) ∙ n.admitted.accepted in
      ap (λ (b : Result Options Fault). in_index l.words space records (index_under block notes b) (with_block l block notes (read_block block))) accepted
      ∙ ap (in_index l.words space records (index_of (meant block n.options) notes)) s.1
      ∙ rw (s.0.0, s.0.1)

  pub refused_answer : (r : Refusal) (space records : ℕ) (out table : List ℕ) → Admits l block notes (Err r) → Indexes (indexing l block notes space records) out (Err (Refused r)) out table
  unfolding indexing finding index_output_after read_from
  refused_answer r space records out table s =
      subst (λ (f : Finding). Indexes (in_index l.words space records (index_under block notes (read_block block)) f) out (Err (Refused r)) out table) (sym s.whole_is)
      (record { is = refl; output = sym (s.untouched out); read = refl })
