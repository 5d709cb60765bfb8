-- The replies, case by case: what each refusal and a digest leave after, and what measuring tells.
use Rattle.std.proofs.Common.{Option, Some, None, Result, Ok, Err}
use mathlib.Core.Path.{◌≡◌, refl, sym, ap, ◌∙◌}
use mathlib.Core.Bool.{Bool, true, false}
use mathlib.Core.List.{List}
use Prim.Native.Nat.{ℕ, ◌≤◌, ◌<◌, max, min}
use native.Mathlib.Omega.{arith}
use lib.Dec.{leb}
use lib.ListN.{length, replicate}
use borrow.Author.Tests.{le-ltb, le-leb, lt-leb, leb-true, leb-false}
use Rattle.options.specs.Opts.{Opts, meant}
use Rattle.options.specs.OptionBlock.{read_block}
use Rattle.options.specs.declared.Options.{Options}
use Rattle.options.specs.declared.Fault.{Fault}
use Rattle.lines.specs.Cited.Places.{most_large}
use Rattle.pieces.specs.Pieces.{pieces}
use Rattle.output.specs.Cited.Sink.{Wrote}
use Rattle.output.proofs.Sink.{written_fits, wrote_length}
use Rattle.formatter.specs.Answers.{Answer, done, room, output_after}
use Rattle.walk.specs.Digest.{most_words, digest, long_paragraph}
use Rattle.formatter.specs.Format.{Words, Limits, own_room, Finding, found, stopped, within, with_work, with_text, damage_in, with_notes, with_block, finding, answering, with_digest, most_told, measured, measuring, in_room, writing}
use Rattle.formatter.specs.Work.{most_lent, lending}
use Rattle.walk.specs.Work.{work_for}
use Rattle.walk.specs.Cited.Course.{Admitted, Finished}
use Rattle.formatter.specs.Cited.Call.{told, Answers, Refuses, left_of, AdmitsNotes, Admits, AdmitsWithin, AdmitsLent}
use Rattle.formatter.specs.declared.Unwritten.{Unwritten}
use Rattle.formatter.specs.declared.Refusal.{Refusal}
use Rattle.formatter.specs.declared.Refusal.TheVariants.{Text, Words as Many}
use Rattle.walk.specs.declared.Stopped.{Stopped}
use Rattle.walk.specs.declared.notes.Notes.{Notes}
use Rattle.formatter.proofs.Together.{written_at_once}
use Rattle.formatter.specs.declared.Unwritten.TheVariants.{Refused as Declined, Room}

-- ---- with the options and notes that are to be formatted

module _ (o : Opts) (notes out out' : List ℕ) (r : Result ℕ Stopped) (f : Finished most_words o notes out out' r) where
  all_of : {n : ℕ} → r ≡ Ok n → (long_paragraph most_words o 0 (pieces o notes) ≡ None) × Wrote out 0 (digest o notes) out' n
  all_of e = rw e at f

  stopped_of : {stopped : Stopped} → r ≡ Err stopped → (long_paragraph most_words o 0 (pieces o notes) ≡ Some stopped.at) × (out' ≡ replicate (length out) 0)
  stopped_of e = rw e at f

  -- too many words: all zero
  pub words_answer : {stopped : Stopped} → r ≡ Err stopped → Answers (left_of own_room o notes (with_digest (length out))) out (Err (Declined (Many stopped.at))) out'
  unfolding output_after
  words_answer e = let s = stopped_of e in rw s.0 (record { is = refl; output = s.1 })

  -- the digest fits
  pub done_answer : {n : ℕ} → r ≡ Ok n → n ≤ length out' → Answers (left_of own_room o notes (with_digest (length out))) out (Ok n) out'
  unfolding output_after
  done_answer {n} e h =
      let w = all_of e in
      let l = wrote_length w.1 in
      let c : n ≡ length (digest o notes) = omega (arith, w.1.count) in
      let fits : length (digest o notes) ≤ length out = omega arith in
      rw (w.0, le-leb (length (digest o notes)) (length out) fits) (record { is = ap Ok c; output = w.1.bytes ∙ written_fits 0 out (digest o notes) (omega arith) })

  -- it does not: all zero
  pub room_answer : {n : ℕ} {clear : List ℕ} → r ≡ Ok n → length out' < n → clear ≡ replicate (length out') 0
      → Answers (left_of own_room o notes (with_digest (length out))) out (Err (Room n)) clear
  unfolding output_after
  room_answer {n} e h z =
      let w = all_of e in
      let l = wrote_length w.1 in
      let c : n ≡ length (digest o notes) = omega (arith, w.1.count) in
      let over : length out < length (digest o notes) = omega arith in
      rw (w.0, lt-leb (length (digest o notes)) (length out) over) (record { is = ap (λ (k : ℕ). Err (Room k)) c; output = z ∙ ap (λ (k : ℕ). replicate k 0) l })

-- ---- with the options of an accepted block

-- up to so many bytes, however many words a paragraph may have
abbrev pub limits : ℕ → Words → Limits
limits bytes w = record { bytes = bytes; words = w }

module _ (l : Limits) (block notes : List ℕ) (o : Options) where
  notes_are : (f : Option ℕ) → length notes ≤ l.bytes → f ≡ damage_in o.keep notes → with_notes l (meant block o) notes ≡ with_text l.words (meant block o) notes f
  unfolding meant
  notes_are f h e = rw (with_notes, le-ltb l.bytes (length notes) h, e)

  pub text_refused : {f : Option ℕ} {place : ℕ} → length notes ≤ l.bytes → f ≡ damage_in o.keep notes → f ≡ Some place → AdmitsNotes l block o notes (Err (Text place))
  text_refused {f} {place} h e a = record { whole_is = notes_are (Some place) h (sym a ∙ e); untouched = λ out. refl; early = omega arith }

  pub notes_passed : {f : Option ℕ} → length notes ≤ l.bytes → f ≡ damage_in o.keep notes → f ≡ None → AdmitsNotes l block o notes (Ok tt)
  notes_passed h e a = (h, notes_are None h (sym a ∙ e), λ k. rw k at (sym e ∙ a))

-- ---- with any block, and limits that the code is proved for

module _ (l : Limits) (block notes : List ℕ) (b : Result Options Fault) (read : b ≡ read_block block) {o : Options} (e : b ≡ Ok o) where
  pub notes_admitted : l.bytes ≤ most_large → AdmitsNotes l block o notes (Ok tt) → Admitted block notes o
  notes_admitted m n = record { accepted = sym read ∙ e; short = omega (arith, n.0, m); sound = n.2 }

  pub notes_within : AdmitsNotes l block o notes (Ok tt) → (with_block l block notes (read_block block) ≡ within l.words (meant block o) notes) × (length notes ≤ l.bytes)
  notes_within n = (rw (sym read ∙ e) n.1, n.0)

-- ---- what is replied to it

-- what becomes of the digest in an output of so many bytes
abbrev pub in_output : Limits → List ℕ → List ℕ → Answer
in_output l out d = in_room (length out) (measured l.words d)

module _ (l : Limits) (block notes : List ℕ) where
  as_measured : (f : Finding) {r : Result ℕ Unwritten} → with_block l block notes (read_block block) ≡ f → r ≡ told (answering (measured l.words) f) → r ≡ told (measuring l block notes)
  unfolding measuring finding
  as_measured f e h = h ∙ ap (λ (x : Finding). told (answering (measured l.words) x)) (sym e)

  as_written : (out : List ℕ) (f : Finding) {r : Result ℕ Unwritten} {out' : List ℕ} → with_block l block notes (read_block block) ≡ f → Answers (answering (in_output l out) f) out r out' → Answers (writing l block notes (length out)) out r out'
  unfolding finding
  as_written out f e h = rw (written_at_once l block notes (length out) ∙ ap (answering (in_output l out)) e) h

  module _ {most : ℕ} {r : Refusal} (f : Refuses most (with_block l block notes (read_block block)) r) where
    pub refusal_measured : Err (Declined r) ≡ told (measuring l block notes)
    refusal_measured = as_measured (stopped r) f.whole_is refl

    refusal_written : (out : List ℕ) → Answers (writing l block notes (length out)) out (Err (Declined r)) out
    unfolding output_after
    refusal_written out = as_written out (stopped r) f.whole_is (record { is = refl; output = sym (f.untouched out) })

module _ (l : Limits) (block notes : List ℕ) (a : Result Notes Refusal) (admits : Admits l block notes a) where
  pub refused_of : {r : Refusal} → a ≡ Err r → Admits l block notes (Err r)
  refused_of e = rw e at admits

  pub passed_of : {n : Notes} → a ≡ Ok n → Admits l block notes (Ok n)
  passed_of e = rw e at admits

  pub refused_measured : {r : Refusal} → a ≡ Err r → Err (Declined r) ≡ told (measuring l block notes)
  refused_measured e = refusal_measured l block notes (refused_of e)

  pub passed_measured : {n : Notes} {r : Result ℕ Unwritten} → a ≡ Ok n → r ≡ told (left_of l (meant n.block.now n.options) n.bytes.now (measured l.words)) → r ≡ told (measuring l block notes)
  passed_measured {n} e h = let f = passed_of e in as_measured l block notes (within l.words (meant block n.options) notes) f.1 (rw (f.0.0, f.0.1) at h)

  pub refused_written : (out : List ℕ) {r : Refusal} → a ≡ Err r → Answers (writing l block notes (length out)) out (Err (Declined r)) out
  refused_written out e = refusal_written l block notes (refused_of e) out

  pub passed_written : (out : List ℕ) {n : Notes} {r : Result ℕ Unwritten} {out' : List ℕ} → a ≡ Ok n → Answers (left_of l (meant n.block.now n.options) n.bytes.now (in_output l out)) out r out'
      → Answers (writing l block notes (length out)) out r out'
  passed_written out {n} e h = let f = passed_of e in as_written l block notes out (within l.words (meant block n.options) notes) f.1 (rw (f.0.0, f.0.1) at h)

-- ---- where working room is lent

module _ (lends : ℕ) (block notes : List ℕ) where
  -- code 12 is not due where no more is needed than is lent
  pub work_passed : {a : Result Notes Refusal} → AdmitsWithin most_lent block notes a → {n : Notes} → a ≡ Ok n → (needed : ℕ) → needed ≡ max lends (work_for (meant n.block.now n.options) n.bytes.now) → needed ≤ lends
      → AdmitsLent lends block notes (Ok n)
  work_passed admits {n} e needed w h =
      let f : Admits (lending lends) block notes (Ok n) = rw e at (admits (lending lends).words) in
      let o = meant block n.options in
      let m : needed ≡ max lends (work_for o notes) = rw (f.0.0, f.0.1) at w in
      let k : work_for o notes ≤ lends = omega (arith, m) in
      (f.0, f.1 ∙ rw (within, with_work, le-ltb lends (work_for o notes) k), k)

  -- codes 1 to 3 are due as without it
  pub within_refused : (r : Refusal) → AdmitsWithin most_lent block notes (Err r) → AdmitsLent lends block notes (Err r)
  within_refused r admits =
      let f = admits (lending lends).words in
      record { whole_is = f.whole_is; untouched = f.untouched; early = omega (arith, f.early) }

  module _ (a : Result Notes Refusal) (admits : AdmitsLent lends block notes a) where
    pub lent_passed : {n : Notes} → a ≡ Ok n → AdmitsLent lends block notes (Ok n)
    lent_passed e = rw e at admits

    lent_refused : {r : Refusal} → a ≡ Err r → AdmitsLent lends block notes (Err r)
    lent_refused e = rw e at admits

    pub lent_refused_measured : {r : Refusal} → a ≡ Err r → Err (Declined r) ≡ told (measuring (lending lends) block notes)
    lent_refused_measured e = refusal_measured (lending lends) block notes (lent_refused e)

    pub lent_passed_measured : {n : Notes} {r : Result ℕ Unwritten} → a ≡ Ok n → r ≡ told (measured (lending lends).words (digest (meant n.block.now n.options) n.bytes.now)) → r ≡ told (measuring (lending lends) block notes)
    lent_passed_measured {n} e h = let f = lent_passed e in as_measured (lending lends) block notes (found (digest (meant block n.options) notes)) f.1 (rw (f.0.0, f.0.1) at h)

    pub lent_refused_written : (out : List ℕ) {r : Refusal} → a ≡ Err r → Answers (writing (lending lends) block notes (length out)) out (Err (Declined r)) out
    lent_refused_written out e = refusal_written (lending lends) block notes (lent_refused e) out

    pub lent_passed_written : (out : List ℕ) {n : Notes} {r : Result ℕ Unwritten} {out' : List ℕ} → a ≡ Ok n → Answers (in_output (lending lends) out (digest (meant n.block.now n.options) n.bytes.now)) out r out'
        → Answers (writing (lending lends) block notes (length out)) out r out'
    lent_passed_written out {n} e h = let f = lent_passed e in as_written (lending lends) block notes out (found (digest (meant block n.options) notes)) f.1 (rw (f.0.0, f.0.1) at h)

-- what is measured, and what is written, of a digest that was put into an output as far as it fits
module _ (lends : ℕ) (d out out' : List ℕ) (n : ℕ) (w : Wrote out 0 d out' n) where
  counted : n ≡ length d
  counted = omega (arith, w.count)

  told_is : n ≤ most_told → measured (lending lends).words d ≡ done d
  told_is h = rw (le-leb (length d) most_told (omega (arith, counted)))

  untold_is : most_told < n → measured (lending lends).words d ≡ room most_told
  untold_is h = rw (lt-leb (length d) most_told (omega (arith, counted)))

  pub done_written : n ≤ most_told → n ≤ length out' → Answers (in_room (length out) (measured (lending lends).words d)) out (Ok n) out'
  unfolding output_after
  done_written h k =
      let l = wrote_length w in
      rw (told_is h, le-leb (length d) (length out) (omega (arith, counted, l))) (record { is = ap Ok counted; output = w.bytes ∙ written_fits 0 out d (omega (arith, counted, l)) })

  -- it cannot be told, or does not fit: all zero
  pub room_written : {clear : List ℕ} {told : ℕ} → told ≡ min n most_told → (n ≤ most_told → length out' < n) → clear ≡ replicate (length out') 0 → Answers (in_room (length out) (measured (lending lends).words d)) out (Err (Room told)) clear
  unfolding output_after
  room_written {clear} {told} e h z = go (leb n most_told) refl
    where
      zero : clear ≡ replicate (length out) 0
      zero = z ∙ ap (λ (k : ℕ). replicate k 0) (wrote_length w)

      go : (b : Bool) → leb n most_told ≡ b → Answers (in_room (length out) (measured (lending lends).words d)) out (Err (Room told)) clear
      go true t =
          let k = leb-true n most_told t in
          rw (told_is k, lt-leb (length d) (length out) (omega (arith, counted, h k, wrote_length w))) (record { is = ap (λ (m : ℕ). Err (Room m)) (omega (arith, e, k, counted)); output = zero })
      go false t =
          let k = leb-false n most_told t in
          rw (untold_is k) (record { is = ap (λ (m : ℕ). Err (Room m)) (omega (arith, e, k)); output = zero })
